use Rattle.std.proofs.Common.{◌≤◌, map}
use Rattle.pc_sheet.specs.Cells.{values_below}
use Rattle.pc_sheet.specs.Entailment.{IsImplied}
use Rattle.pc_spreadsheet.specs.Summary.{IsCount, that_has}
use Rattle.pc_spreadsheet.proofs.summary.implied_values.Given as goal

abbrev pub invariant-loop-value : goal.invariant-loop-value
invariant-loop-value l = record {
  counted : IsCount (IsImplied l.session.sheet) (map (that_has l.cell) (values_below l.value)) l.count;
  few : l.count ≤ l.value;
}
