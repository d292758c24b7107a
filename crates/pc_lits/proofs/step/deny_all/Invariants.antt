use Rattle.std.proofs.Common.{◌≡◌, take, length}
use Rattle.pc_lits.specs.Values.{Agrees}
use Rattle.pc_lits.proofs.step.deny_all.Given as goal

abbrev pub invariant-loop-lit : goal.invariant-loop-lit
invariant-loop-lit l = Agrees l.values (take l.lit-index l.clause) × (length l.values ≡ length l.initial.values)
