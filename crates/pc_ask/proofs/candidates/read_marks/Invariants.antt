use Rattle.std.proofs.Common.{take}
use Rattle.pc_ask.specs.inside.Reading.{AreMarksOf}
use Rattle.pc_ask.proofs.candidates.read_marks.Given as goal

abbrev pub invariant-loop-cell : goal.invariant-loop-cell
invariant-loop-cell l = AreMarksOf (take l.cell-index l.reads) l.marks.items
