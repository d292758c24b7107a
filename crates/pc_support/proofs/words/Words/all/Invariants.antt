use Rattle.std.proofs.Common.{◌≡◌, ◌<◌, ℕ, length}
use Rattle.pc_support.specs.Seen.{HasPlace}
use Rattle.pc_support.proofs.words.Words.all.Given as goal

abbrev pub invariant-loop-place : goal.invariant-loop-place
invariant-loop-place l = record {
  size : length l.words ≡ l._place;
  each : (at : ℕ) → at < l._place → HasPlace l.words at;
}
