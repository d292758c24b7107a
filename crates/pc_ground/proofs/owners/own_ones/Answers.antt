use Rattle.std.proofs.Common.{arith}
use Rattle.pc_ground.proofs.Owned.{ones_more}
use Rattle.pc_ground.proofs.owners.own_ones.Goals as goal

pub loop-v-preserved : goal.loop-v-preserved
loop-v-preserved c = ones_more c.args.size c.loop-v.v c.args.span c.loop-v.owners.items _ _ (omega arith) c.loop-v.invariant c.in_ok-own.ensures
