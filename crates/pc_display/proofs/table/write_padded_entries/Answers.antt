use Rattle.std.proofs.Common.{◌-◌, ap, replicate, ◌∙◌}
use Rattle.pc_writer.specs.Spelling.{sort_of}
use Rattle.pc_writer.proofs.InTurn.{Writes-then, Writes-cut, Writes-same}
use Rattle.pc_display.specs.Show.{entered_text}
use Rattle.pc_display.specs.Grid.{columns}
use Rattle.pc_display.proofs.table.write_padded_entries.Goals as goal

pub returns-in_err-write_entered : goal.returns-in_err-write_entered
returns-in_err-write_entered g c =
    let u = c.args.book.now.universe in
    let text = entered_text u (sort_of u c.args.cell) c.args.entries.now in
    Writes-cut c.from_residual.result (replicate (c.args.width - columns text) 32) c.from_residual.ensures.0 c.in_err-write_entered.ensures

pub returns : goal.returns
returns g c =
    Writes-then c.in_ok-write_entered.ensures
    (Writes-same (ap (λ n. replicate n 32) (c.saturating_sub.ensures ∙ ap (λ n. c.args.width - n) c.entered_columns.ensures)) c.write_spaces.ensures)
