use Rattle.std.proofs.Common.{◌≡◌, length, take}
use Rattle.pc_ask.specs.inside.Parts.{AreMarked}
use Rattle.pc_ask.proofs.part.marks_of.Given as goal

abbrev pub invariant-loop-i : goal.invariant-loop-i
invariant-loop-i l = record {
  room : length l.marks ≡ l.count;
  marked : AreMarked (take l.i l.own) l.marks;
}
