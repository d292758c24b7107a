use Rattle.std.proofs.Common.{◌-◌, ap, replicate, ◌∙◌}
use Rattle.pc_writer.specs.Spelling.{cell_text}
use Rattle.pc_writer.proofs.InTurn.{Writes-then, Writes-cut, Writes-same}
use Rattle.pc_display.specs.Grid.{columns}
use Rattle.pc_display.proofs.table.write_padded_cell.Goals as goal

pub returns-in_err-write_cell : goal.returns-in_err-write_cell
returns-in_err-write_cell g c =
    let text = cell_text c.args.book.now.universe c.args.cell in
    Writes-cut c.from_residual.result (replicate (c.args.width - columns text) 32) c.from_residual.ensures.0 c.in_err-write_cell.ensures

pub returns : goal.returns
returns g c =
    Writes-then c.in_ok-write_cell.ensures
    (Writes-same (ap (λ n. replicate n 32) (c.saturating_sub.ensures ∙ ap (λ n. c.args.width - n) c.cell_columns.ensures)) c.write_spaces.ensures)
