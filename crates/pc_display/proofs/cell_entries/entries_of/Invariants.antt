use Rattle.std.proofs.Common.{◌≡◌, take}
use Rattle.pc_sheet.specs.WellFormed.{entries_of}
use Rattle.pc_display.proofs.cell_entries.entries_of.Given as goal

abbrev pub invariant-loop-entry : goal.invariant-loop-entry
invariant-loop-entry l = l.found ≡ entries_of l.cell (take l.entry-index l.book.entries)
