use Rattle.std.proofs.Common.{◌≡◌, ◌≤◌, ◌<◌, ℕ, true}
use Rattle.pc_log.specs.inside.Bits.{bit}
use Rattle.pc_log.proofs.bit_set.next_bit.Given as goal

abbrev pub invariant-loop-place : goal.invariant-loop-place
invariant-loop-place l = (p : ℕ) → l.from ≤ p → p < l.place → bit l.words p ≡ true → ⊥
