use Rattle.std.proofs.Common.{[], map, ap, ◌∙◌}
use Rattle.pc_accept.specs.Axioms.{axiom_node}
use Rattle.pc_ground.specs.Naming.{counter_numbers, named}
use Rattle.pc_ground.proofs.NamesAdded.{counter_more}
use Rattle.pc_ground.proofs.counter_names.name_counters_of.Goals as goal

pub loop-j-preserved : goal.loop-j-preserved
loop-j-preserved c =
    let steps = c.in_ok-counter.counter.steps.items in
    counter_more c.args.path.now.rule c.args.path.now.steps.items steps c.args.values c.args.threshold c.args.i c.loop-j.j c.args.names.now c.loop-j.names c.name_counter.new.names c.loop-j.invariant c.in_ok-counter.ensures.steps
    (c.in_ok-name_counter.ensures ∙ ap (λ x. named c.loop-j.names [] (map (axiom_node x steps) (counter_numbers c.args.i c.loop-j.j))) c.in_ok-counter.ensures.rule)
