use Rattle.std.proofs.Common.{◌≤◌, length, take}
use Rattle.pc_sheet.specs.WellFormed.{entries_of}
use Rattle.pc_sheet.specs.declared.ids.CellId.{CellId}
use Rattle.pc_writer.proofs.LaterEntries.{AreNoted}
use Rattle.pc_writer.proofs.later.has_several.Given as goal

abbrev pub invariant-loop-entry : goal.invariant-loop-entry
invariant-loop-entry l =
    AreNoted l.noted (take l.entry-index l.entry-items) × ((c : CellId) → length (entries_of c (take l.entry-index l.entry-items)) ≤ 1)
