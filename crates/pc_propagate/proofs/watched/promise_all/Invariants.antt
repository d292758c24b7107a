use Rattle.std.proofs.Common.{◌≡◌, ℕ, ◌+◌, ◌<◌, ◌≤◌, length, take}
use Rattle.pc_propagate.specs.Lists.{room_in}
use Rattle.pc_propagate.specs.Listed.{occurrences}
use Rattle.pc_propagate.proofs.watched.promise_all.Given as goal

abbrev pub invariant-loop-lit : goal.invariant-loop-lit
invariant-loop-lit l = record {
  same : l.lists.lists ≡ l.fn.lists.lists;
  size : length l.lists.room ≡ length l.fn.lists.room;
  room : (d : ℕ) → d < length l.fn.lists.lists → room_in l.fn.lists d + occurrences d (take l.lit-index l.clause) ≤ room_in l.lists d;
}
