use Rattle.std.proofs.Common.{◌≡◌, take, length}
use Rattle.pc_checker.specs.Entered.{AreUsesMarked}
use Rattle.pc_checker.specs.Made.{entries_of}
use Rattle.pc_checker.proofs.sets.mark_uses.Given as goal

abbrev pub invariant-loop-said : goal.invariant-loop-said
invariant-loop-said l = record {
  marked : AreUsesMarked (entries_of (take l.said-index l.uses)) l.marks;
  room : length l.marks ≡ length l.fn.marks;
}
