use Rattle.std.proofs.Common.{◌++◌, codes, ap}
use Rattle.pc_writer.specs.Spelling.{value_text, sort_of}
use Rattle.pc_writer.proofs.CellLemmas.{entered_cell, entered_value}
use Rattle.pc_writer.proofs.InTurn.{Writes-then, Writes-cut, Writes-same}
use Rattle.pc_writer.proofs.entry.write_entry.Goals as goal

pub write_cell-requires : goal.write_cell-requires
write_cell-requires g c = entered_cell c.args.book.now.universe c.args.entry c.requires

pub sort_of-requires : goal.sort_of-requires
sort_of-requires g c = entered_cell c.args.book.now.universe c.args.entry c.requires

pub write_value-requires : goal.write_value-requires
write_value-requires g c = entered_value c.args.book.now.universe c.args.entry c.requires c.sort_of.result c.sort_of.ensures

pub returns-in_err-write_cell : goal.returns-in_err-write_cell
returns-in_err-write_cell g c =
    let u = c.args.book.now.universe in
    let e = c.args.entry in
    Writes-cut c.from_residual.result (codes " = " ++ value_text u (sort_of u e.cell) e.value) c.from_residual.ensures.0 c.in_err-write_cell.ensures

pub returns-in_err-write_text : goal.returns-in_err-write_text
returns-in_err-write_text g c =
    let u = c.args.book.now.universe in
    let e = c.args.entry in
    Writes-then c.in_ok-write_cell.ensures (Writes-cut c.from_residual-in_err-write_text.result (value_text u (sort_of u e.cell) e.value) c.from_residual-in_err-write_text.ensures.0 c.in_err-write_text.ensures)

pub returns : goal.returns
returns g c =
    let u = c.args.book.now.universe in
    Writes-then c.in_ok-write_cell.ensures (Writes-then c.in_ok-write_text.ensures (Writes-same (ap (λ s. value_text u s c.args.entry.value) c.sort_of.ensures) c.write_value.ensures))
