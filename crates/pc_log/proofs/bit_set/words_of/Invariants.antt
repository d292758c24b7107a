use Rattle.std.proofs.Common.{◌≡◌, ◌≤◌, ◌^◌, ◌↔◌, ℕ, true, length, take, Contains}
use Rattle.pc_log.specs.inside.Bits.{bit}
use Rattle.pc_log.proofs.bit_set.words_of.Given as goal

abbrev pub invariant-loop-place : goal.invariant-loop-place
invariant-loop-place l = record {
  few : length l.words.items ≤ 2 ^ 26;
  has : (p : ℕ) → (bit l.words.items p ≡ true) ↔ Contains (take l.place-index l.places) p;
}
