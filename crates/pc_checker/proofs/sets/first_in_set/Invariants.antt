use Rattle.std.proofs.Common.{◌≡◌, ℕ, ◌<◌, length}
use Rattle.pc_checker.specs.Made.{AreApartAt}
use Rattle.pc_checker.proofs.sets.first_in_set.Given as goal

abbrev pub invariant-loop-place : goal.invariant-loop-place
invariant-loop-place l = record {
  apart : (j : ℕ) → j < l.place → AreApartAt l.sets j;
  room : length l.marks ≡ length l.fn.marks;
}
