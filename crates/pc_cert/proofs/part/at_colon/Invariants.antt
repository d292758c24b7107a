use Rattle.std.proofs.Common.{◌≢◌, take, codes}
use Rattle.std.specs.List.{AllByRecursion}
use Rattle.pc_cert.specs.Trees.{seen}
use Rattle.pc_cert.proofs.part.at_colon.Given as goal

abbrev pub invariant-loop-i : goal.invariant-loop-i
invariant-loop-i l = AllByRecursion (λ t. t ≢ codes ":") (seen (take l.i l.texts))
