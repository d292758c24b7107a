use Rattle.std.proofs.Common.{All, map, take}
use Rattle.pc_cert.specs.Views.{said_of}
use Rattle.pc_checker.specs.Verdicts.{IsHeld}
use Rattle.pc_checker.proofs.claim.first_not_held.Given as goal

abbrev pub invariant-loop-said : goal.invariant-loop-said
invariant-loop-said l = All (IsHeld l.values) (take l.said-index (map said_of l.uses))
