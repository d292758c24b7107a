use Rattle.std.proofs.Common.{◌≡◌, take, length}
use Rattle.pc_checker.specs.inside.Once.{AreGathered}
use Rattle.pc_checker.proofs.once.add_those_of.Given as goal

abbrev pub invariant-loop-lit : goal.invariant-loop-lit
invariant-loop-lit l = record {
  gathered : AreGathered l.sign l.fn.once.items (take l.lit-index l.clause) l.marks l.once.items;
  room : length l.marks ≡ length l.fn.marks;
}
