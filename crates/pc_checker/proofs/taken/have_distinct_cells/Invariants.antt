use Rattle.std.proofs.Common.{◌≡◌, take, length}
use Rattle.pc_sheet.specs.Entailment.{HaveDistinctCells}
use Rattle.pc_checker.proofs.ReadLemmas.{AreReadMarked}
use Rattle.pc_checker.proofs.taken.have_distinct_cells.Given as goal

abbrev pub invariant-loop-read : goal.invariant-loop-read
invariant-loop-read l = record {
  distinct : HaveDistinctCells (take l.read-index l.reads);
  marked : AreReadMarked (take l.read-index l.reads) l.marks;
  room : length l.marks ≡ length l.initial.marks;
}
