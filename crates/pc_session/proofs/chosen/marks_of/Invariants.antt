use Rattle.std.proofs.Common.{take}
use Rattle.pc_session.specs.inside.Chosen.{AreChosen}
use Rattle.pc_session.proofs.chosen.marks_of.Given as goal

abbrev pub invariant-loop-entry : goal.invariant-loop-entry
invariant-loop-entry l = AreChosen (record l.book { entries = take l.entry-index l.entries }) l.marks.items
