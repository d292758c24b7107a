use Rattle.pc_ground.proofs.Owned.{time_more}
use Rattle.pc_ground.proofs.owners.own.Goals as goal

pub times-preserved : goal.times-preserved
times-preserved c = time_more c.times.counter c.args.span c.args.owners.now.items c.times.owners.items _ c.times.invariant c.in_ok-push.ensures.items
