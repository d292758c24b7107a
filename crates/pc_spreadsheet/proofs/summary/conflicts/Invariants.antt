use Rattle.std.proofs.Common.{◌≤◌, take}
use Rattle.pc_spreadsheet.specs.Summary.{IsCount, HasConflict}
use Rattle.pc_spreadsheet.proofs.summary.conflicts.Given as goal

abbrev pub invariant-loop-entry : goal.invariant-loop-entry
invariant-loop-entry l = record {
  counted : IsCount (HasConflict l.session.sheet) (take l.entry-index l.entries) l.count;
  few : l.count ≤ l.entry-index;
}
