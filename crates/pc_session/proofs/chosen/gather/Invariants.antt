use Rattle.std.proofs.Common.{◌≡◌, ◌≤◌, length, take}
use Rattle.pc_session.specs.inside.Chosen.{places_of}
use Rattle.pc_session.proofs.chosen.gather.Given as goal

abbrev pub invariant-loop-number : goal.invariant-loop-number
invariant-loop-number l = record {
  long : length l.numbers.items ≡ length l.initial.numbers.items;
  few : l.count ≤ l.number;
  places : take l.count l.numbers.items ≡ places_of (take l.number l.marks);
}
