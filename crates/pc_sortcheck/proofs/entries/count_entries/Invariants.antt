use Rattle.std.proofs.Common.{◌≡◌, ◌≤◌, length, take}
use Rattle.pc_sheet.specs.WellFormed.{entries_of}
use Rattle.pc_sortcheck.proofs.entries.count_entries.Given as goal

abbrev pub invariant-loop-entry : goal.invariant-loop-entry
invariant-loop-entry l = record {
  counted : l.count ≡ length (entries_of l.cell (take l.entry-index l.entries));
  few : l.count ≤ l.entry-index;
}
