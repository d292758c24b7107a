use Rattle.std.proofs.Common.{◌+◌, [], ◌∷◌, ◌++◌, rules}
use Rattle.pc_accept.specs.Literals.{node}
use Rattle.pc_ground.proofs.NamesAdded.{counters_more}
use Rattle.pc_ground.proofs.counter_names.name_counter_nodes.Goals as goal

pub loop-q-preserved : goal.loop-q-preserved
loop-q-preserved c =
    counters_more (λ q. node c.args.path.now.rule (c.args.path.now.steps.items ++ (c.args.values + q) ∷ [])) c.args.names.now c.loop-q.names c.add_node.new.self c.loop-q.q c.loop-q.invariant (search rules)
