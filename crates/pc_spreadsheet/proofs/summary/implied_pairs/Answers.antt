use Rattle.std.proofs.Common.{◌≡◌, ℕ, ap, subst, ◌∙◌, arith, length}
use Rattle.std.specs.List.{flat_map}
use Rattle.pc_sheet.specs.Sheet.{Sheet}
use Rattle.pc_sheet.specs.Cells.{cells}
use Rattle.pc_sheet.specs.Entailment.{cell_sizes, IsImplied}
use Rattle.pc_sheet.proofs.CellsListed.{cells_are_numbered}
use Rattle.pc_display.specs.Show.{cells_below}
use Rattle.pc_spreadsheet.specs.Summary.{IsCount, none_left, values_of}
use Rattle.pc_spreadsheet.proofs.Summing.{next_cell}
use Rattle.pc_spreadsheet.proofs.summary.implied_pairs.Goals as goal

pub loop-cell-init : goal.loop-cell-init
loop-cell-init c = record { counted = none_left; few = omega arith }

pub loop-cell-preserved : goal.loop-cell-preserved
loop-cell-preserved c = record {
  counted = next_cell c.args.session.now.sheet c.loop-cell.cell c.loop-cell.count c.implied_values-count.result c.loop-cell.invariant.counted c.implied_values-count.ensures.exact;
  few = omega (arith, c.loop-cell.invariant.few, c.implied_values-count.ensures.few);
}

pub returns : goal.returns
returns c =
    let sheet = c.args.session.now.sheet in
    let end = c.cells-cell-end.ensures.exact ∙ ap (λ (s : Sheet). length (cell_sizes s.universe)) c.book.ensures in
    let whole : c.loop-cell.cell ≡ length (cells sheet.universe) = omega (arith, end, (cells_are_numbered sheet.universe).count) in
    subst (λ (n : ℕ). IsCount (IsImplied sheet) (flat_map (values_of sheet.universe) (cells_below n)) c.loop-cell.count) whole c.loop-cell.invariant.counted
