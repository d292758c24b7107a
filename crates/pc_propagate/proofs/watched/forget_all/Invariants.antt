use Rattle.std.proofs.Common.{take}
use Rattle.pc_propagate.specs.Listed.{HaveGone}
use Rattle.pc_propagate.proofs.watched.forget_all.Given as goal

abbrev pub invariant-loop-lit : goal.invariant-loop-lit
invariant-loop-lit l = HaveGone (take l.lit-index l.clause) l.fn.lists l.lists
