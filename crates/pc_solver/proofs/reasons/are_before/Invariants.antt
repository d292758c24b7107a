use Rattle.std.proofs.Common.{take}
use Rattle.pc_solver.specs.inside.Reasons.{AreFalseBefore}
use Rattle.pc_solver.proofs.reasons.are_before.Given as goal

abbrev pub invariant-loop-other : goal.invariant-loop-other
invariant-loop-other l = AreFalseBefore l.trail.entries l.place (take l.other-index l.clause) l.lit
