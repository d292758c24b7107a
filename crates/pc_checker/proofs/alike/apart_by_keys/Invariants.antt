use Rattle.pc_checker.specs.inside.Alike.{AreKeyed}
use Rattle.pc_checker.proofs.alike.apart_by_keys.Given as goal

abbrev pub invariant-loop-place : goal.invariant-loop-place
invariant-loop-place l = AreKeyed l.sets l.size l.place l.names
