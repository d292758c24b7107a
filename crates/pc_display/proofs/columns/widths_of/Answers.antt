use Rattle.std.proofs.Common.{◌≡◌, ◌∙◌, ap, arith, length, map}
use Rattle.pc_sheet.specs.Cells.{cells}
use Rattle.pc_sheet.proofs.CellsListed.{cells_are_numbered}
use Rattle.pc_writer.specs.Spelling.{cell_text}
use Rattle.pc_display.specs.Show.{cells_below}
use Rattle.pc_display.specs.Grid.{entry_column, widest}
use Rattle.pc_display.proofs.Widths.{widest_more}
use Rattle.pc_display.proofs.columns.widths_of.Goals as goal

pub loop-number-preserved : goal.loop-number-preserved
loop-number-preserved c =
    let book = c.args.book.now in
    record {
      cell = omega (arith, widest_more (cell_text book.universe) c.loop-number.number, c.max.ensures, c.cell_columns.ensures, c.loop-number.invariant.cell);
      entry = omega (arith, widest_more (entry_column book) c.loop-number.number, c.max-in-loop-number.ensures, c.entry_columns-entered.ensures.exact, c.loop-number.invariant.entry);
      name = c.name_columns-name.ensures.columns;
    }

pub returns-clause-cell : goal.returns-clause-cell
returns-clause-cell c =
    let u = c.args.book.now.universe in
    let whole : c.loop-number.number ≡ length (cells u) = omega (arith, c.cells-number-end.ensures.exact, (cells_are_numbered u).count) in
    c.loop-number.invariant.cell ∙ ap (λ n. widest (map (cell_text u) (cells_below n))) whole

pub returns-clause-entry : goal.returns-clause-entry
returns-clause-entry c =
    let book = c.args.book.now in
    let whole : c.loop-number.number ≡ length (cells book.universe) = omega (arith, c.cells-number-end.ensures.exact, (cells_are_numbered book.universe).count) in
    c.loop-number.invariant.entry ∙ ap (λ n. widest (map (entry_column book) (cells_below n))) whole
