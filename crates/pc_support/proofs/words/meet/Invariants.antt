use Rattle.std.proofs.Common.{◌≡◌, ◌<◌, ℕ, length, get_or}
use Rattle.std.specs.Prelude.{bit_and}
use Rattle.pc_support.proofs.words.meet.Given as goal

abbrev pub invariant-loop-at : goal.invariant-loop-at
invariant-loop-at l = record {
  size : length l.words.items ≡ l.at;
  each : (at : ℕ) → at < l.at → get_or l.words.items at 0 ≡ bit_and (get_or l.some at 0) (get_or l.others at 0);
}
