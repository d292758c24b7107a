use Rattle.std.proofs.Common.{All, take}
use Rattle.pc_cert.specs.Views.{set_of}
use Rattle.pc_checker.specs.Verdicts.{SetStands}
use Rattle.pc_checker.specs.inside.Parts.{BarredBy}
use Rattle.pc_checker.proofs.claim.first_faulty_set.Given as goal

abbrev pub invariant-loop-place : goal.invariant-loop-place
invariant-loop-place l = All (λ s. SetStands l.book (BarredBy l.barred) (set_of s)) (take l.place l.sets)
