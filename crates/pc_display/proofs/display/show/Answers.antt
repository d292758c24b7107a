use Rattle.std.proofs.Common.{◌≡◌, length, refl, sym, ◌∙◌, ap, arith}
use Rattle.std.specs.List.{flat_map}
use Rattle.pc_sheet.specs.Cells.{cells}
use Rattle.pc_sheet.specs.Entailment.{cell_sizes}
use Rattle.pc_sheet.proofs.CellsListed.{cells_are_numbered}
use Rattle.pc_writer.proofs.InTurn.{Writes-nil, Writes-same}
use Rattle.pc_display.specs.Show.{cell_lines, cells_below}
use Rattle.pc_display.proofs.Below.{cut_within, one_more_written}
use Rattle.pc_display.proofs.display.show.Goals as goal

pub loop-cell-init : goal.loop-cell-init
loop-cell-init g c = λ reason is. Writes-nil g.O.Sink.given g.O.Sink.faults c.args.out.now tt

pub returns-in_err-write_cell_lines : goal.returns-in_err-write_cell_lines
returns-in_err-write_cell_lines g c = λ text shown.
    let sheet = g.V.Supports.sheet c.args.view.now in
    let end = c.cells-cell-end.ensures.exact ∙ ap (λ s. length (cell_sizes s.universe)) c.book.ensures in
    Writes-same (sym shown.2)
    (cut_within cells_below (λ n. record { 0 = n }) (λ n. refl) (cell_lines sheet shown.0) c.loop-cell.cell (c.loop-cell.invariant shown.0 shown.1)
    (length (cells sheet.universe)) c.from_residual.result (omega (arith, end, (cells_are_numbered sheet.universe).count)) c.from_residual.ensures.0 (c.in_err-write_cell_lines.ensures shown.0 shown.1))

pub loop-cell-preserved : goal.loop-cell-preserved
loop-cell-preserved g c = λ reason is.
    one_more_written cells_below (λ n. record { 0 = n }) (λ n. refl) (cell_lines (g.V.Supports.sheet c.args.view.now) reason) c.loop-cell.cell (c.loop-cell.invariant reason is) (c.in_ok-write_cell_lines.ensures reason is)

pub returns : goal.returns
returns g c = λ text shown.
    let sheet = g.V.Supports.sheet c.args.view.now in
    let end = c.cells-cell-end.ensures.exact ∙ ap (λ s. length (cell_sizes s.universe)) c.book.ensures in
    let whole : c.loop-cell.cell ≡ length (cells sheet.universe) = omega (arith, end, (cells_are_numbered sheet.universe).count) in
    Writes-same (ap (λ n. flat_map (cell_lines sheet shown.0) (cells_below n)) whole ∙ sym shown.2) (c.loop-cell.invariant shown.0 shown.1)
