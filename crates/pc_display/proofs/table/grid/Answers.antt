use Rattle.std.proofs.Common.{◌≡◌, ℕ, List, length, map, refl, sym, ◌∙◌, ap, ap₂, arith}
use Rattle.std.specs.List.{flat_map}
use Rattle.pc_sheet.specs.Sheet.{Sheet}
use Rattle.pc_sheet.specs.Cells.{cells}
use Rattle.pc_sheet.specs.Entailment.{cell_sizes}
use Rattle.pc_sheet.proofs.CellsListed.{cells_are_numbered}
use Rattle.pc_writer.specs.Spelling.{cell_text}
use Rattle.pc_writer.proofs.InTurn.{Writes-nil, Writes-same}
use Rattle.pc_display.specs.Supports.{Reasoning}
use Rattle.pc_display.specs.Show.{cells_below}
use Rattle.pc_display.specs.Grid.{entry_column, grid_line, grid_text, widest}
use Rattle.pc_display.proofs.Below.{cut_within, one_more_written}
use Rattle.pc_display.proofs.table.grid.Goals as goal

-- the columns are as wide as the sheet's texts
same_widths : (sheet book : Sheet) (reason : Reasoning) (cell_width entry_width : ℕ) → book ≡ sheet
    → cell_width ≡ widest (map (cell_text book.universe) (cells_below (length (cells book.universe))))
    → entry_width ≡ widest (map (entry_column book) (cells_below (length (cells book.universe))))
    → flat_map (grid_line sheet reason cell_width entry_width) (cells_below (length (cells sheet.universe))) ≡ grid_text sheet reason
same_widths sheet book reason cell_width entry_width same cell entry =
    let all = cells_below (length (cells sheet.universe)) in
    let whole : ℕ → ℕ → List ℕ = λ a b. flat_map (grid_line sheet reason a b) all in
    ap₂ whole
    (cell ∙ ap (λ s. widest (map (cell_text s.universe) (cells_below (length (cells s.universe))))) same)
    (entry ∙ ap (λ s. widest (map (entry_column s) (cells_below (length (cells s.universe))))) same)

pub loop-cell-init : goal.loop-cell-init
loop-cell-init g c = record {
  written = λ reason is. Writes-nil g.O.Sink.given g.O.Sink.faults c.args.out.now tt;
  name = tt;
}

pub loop-cell-preserved : goal.loop-cell-preserved
loop-cell-preserved g c = record {
  written = λ reason is.
      one_more_written cells_below (λ n. record { 0 = n }) (λ n. refl) (grid_line (g.V.Supports.sheet c.args.view.now) reason c.widths_of-widths.result.cell c.widths_of-widths.result.entry) c.loop-cell.cell
      (c.loop-cell.invariant.written reason is) (c.in_ok-write_grid_line.ensures reason is);
  name = c.name_before-name.ensures.columns;
}

pub returns-in_err-write_grid_line : goal.returns-in_err-write_grid_line
returns-in_err-write_grid_line g c = λ text shown.
    let sheet = g.V.Supports.sheet c.args.view.now in
    let widths = c.widths_of-widths.result in
    let end = c.cells-cell-end.ensures.exact ∙ ap (λ s. length (cell_sizes s.universe)) c.book-2.ensures in
    Writes-same (same_widths sheet c.book.result.now shown.0 widths.cell widths.entry c.book.ensures c.widths_of-widths.ensures.cell c.widths_of-widths.ensures.entry ∙ sym shown.2)
    (cut_within cells_below (λ n. record { 0 = n }) (λ n. refl) (grid_line sheet shown.0 widths.cell widths.entry) c.loop-cell.cell (c.loop-cell.invariant.written shown.0 shown.1)
    (length (cells sheet.universe)) c.from_residual.result (omega (arith, end, (cells_are_numbered sheet.universe).count)) c.from_residual.ensures.0 (c.in_err-write_grid_line.ensures shown.0 shown.1))

pub returns : goal.returns
returns g c = λ text shown.
    let sheet = g.V.Supports.sheet c.args.view.now in
    let widths = c.widths_of-widths.result in
    let end = c.cells-cell-end.ensures.exact ∙ ap (λ s. length (cell_sizes s.universe)) c.book-2.ensures in
    let whole : c.loop-cell.cell ≡ length (cells sheet.universe) = omega (arith, end, (cells_are_numbered sheet.universe).count) in
    Writes-same
    (ap (λ n. flat_map (grid_line sheet shown.0 widths.cell widths.entry) (cells_below n)) whole
    ∙ same_widths sheet c.book.result.now shown.0 widths.cell widths.entry c.book.ensures c.widths_of-widths.ensures.cell c.widths_of-widths.ensures.entry ∙ sym shown.2)
    (c.loop-cell.invariant.written shown.0 shown.1)
