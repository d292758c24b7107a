use Rattle.std.proofs.Common.{◌≤◌, ◌*◌}
use Rattle.std.specs.List.{flat_map}
use Rattle.pc_sheet.specs.Entailment.{IsImplied}
use Rattle.pc_display.specs.Show.{cells_below}
use Rattle.pc_spreadsheet.specs.Summary.{IsCount, values_of}
use Rattle.pc_spreadsheet.proofs.summary.implied_pairs.Given as goal

abbrev pub invariant-loop-cell : goal.invariant-loop-cell
invariant-loop-cell l = record {
  counted : IsCount (IsImplied l.session.sheet) (flat_map (values_of l.session.sheet.universe) (cells_below l.cell)) l.count;
  few : l.count ≤ l.cell * 256;
}
