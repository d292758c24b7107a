use Rattle.std.proofs.Common.{◌<◌, length, All}
use Rattle.pc_kept.specs.Stored.{AreMeaningsStored}
use Rattle.pc_kept.proofs.checking.meanings_of.Given as goal

abbrev pub invariant-loop-i : goal.invariant-loop-i
invariant-loop-i l = record { within : All (λ k. k < length l.names.axioms) l.meanings.items; meanings : AreMeaningsStored l.names.axioms l.meanings.items }
