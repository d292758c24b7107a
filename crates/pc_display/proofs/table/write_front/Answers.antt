use Rattle.std.proofs.Common.{◌++◌, codes}
use Rattle.pc_writer.specs.Spelling.{sort_of}
use Rattle.pc_writer.proofs.InTurn.{Writes-then, Writes-cut}
use Rattle.pc_display.specs.Show.{entered_text}
use Rattle.pc_display.specs.Grid.{conflict_column, padded}
use Rattle.pc_display.proofs.table.write_front.Goals as goal

pub returns-in_err-write_padded_cell : goal.returns-in_err-write_padded_cell
returns-in_err-write_padded_cell g c =
    let u = c.args.book.now.universe in
    let entered = padded c.args.widths.entry (entered_text u (sort_of u c.args.cell) c.args.entries.now) in
    Writes-cut c.from_residual.result (codes "  " ++ (entered ++ (codes "  " ++ (conflict_column c.args.clashes ++ codes "  ")))) c.from_residual.ensures.0 c.in_err-write_padded_cell.ensures

pub returns-in_err-write_text : goal.returns-in_err-write_text
returns-in_err-write_text g c =
    let u = c.args.book.now.universe in
    let entered = padded c.args.widths.entry (entered_text u (sort_of u c.args.cell) c.args.entries.now) in
    Writes-then c.in_ok-write_padded_cell.ensures
    (Writes-cut c.from_residual-in_err-write_text.result (entered ++ (codes "  " ++ (conflict_column c.args.clashes ++ codes "  "))) c.from_residual-in_err-write_text.ensures.0 c.in_err-write_text.ensures)

pub returns-in_err-write_padded_entries : goal.returns-in_err-write_padded_entries
returns-in_err-write_padded_entries g c =
    Writes-then c.in_ok-write_padded_cell.ensures
    (Writes-then c.in_ok-write_text.ensures
    (Writes-cut c.from_residual-in_err-write_padded_entries.result (codes "  " ++ (conflict_column c.args.clashes ++ codes "  ")) c.from_residual-in_err-write_padded_entries.ensures.0 c.in_err-write_padded_entries.ensures))

pub returns : goal.returns
returns g c = Writes-then c.in_ok-write_padded_cell.ensures (Writes-then c.in_ok-write_text.ensures (Writes-then c.in_ok-write_padded_entries.ensures c.write_conflict.ensures))
