use Rattle.std.proofs.Common.{All, take}
use Rattle.pc_checker.specs.inside.Parts.{IsAmongOf}
use Rattle.pc_checker.proofs.derivation.are_among_of.Given as goal

abbrev pub invariant-loop-lit : goal.invariant-loop-lit
invariant-loop-lit l = All (IsAmongOf l.sign l.allowed) (take l.lit-index l.clause)
