use Rattle.pc_ground.proofs.NamesAdded.{row_more}
use Rattle.pc_ground.proofs.counter_names.name_counters.Goals as goal

pub loop-i-preserved : goal.loop-i-preserved
loop-i-preserved c =
    row_more c.args.path.now.rule c.args.path.now.steps.items c.args.values c.args.threshold c.loop-i.i c.args.names.now c.loop-i.names c.name_counters_of.new.names c.loop-i.invariant c.in_ok-name_counters_of.ensures
