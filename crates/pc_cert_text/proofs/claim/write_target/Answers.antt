use Rattle.std.proofs.Common.{◌++◌, ap}
use Rattle.pc_sheet.specs.declared.ids.Entry.{Entry}
use Rattle.pc_writer.specs.Spelling.{sort_of, value_text}
use Rattle.pc_writer.proofs.CellLemmas.{entered_cell, entered_value}
use Rattle.pc_writer.proofs.InTurn.{Writes-then, Writes-cut, Writes-same}
use Rattle.pc_cert_text.specs.CertificateText.{equality_text}
use Rattle.pc_cert_text.proofs.claim.write_target.Goals as goal

pub write_cell-requires : goal.write_cell-requires
write_cell-requires g c = entered_cell c.args.book.now.universe (let e : Entry = record { cell = c.args.target.cell; value = c.args.target.value } in e) c.requires

pub sort_of-requires : goal.sort_of-requires
sort_of-requires g c = entered_cell c.args.book.now.universe (let e : Entry = record { cell = c.args.target.cell; value = c.args.target.value } in e) c.requires

pub write_value-requires : goal.write_value-requires
write_value-requires g c =
    entered_value c.args.book.now.universe (let e : Entry = record { cell = c.args.target.cell; value = c.args.target.value } in e) c.requires c.sort_of.result c.sort_of.ensures

pub returns-in_err-write_cell : goal.returns-in_err-write_cell
returns-in_err-write_cell g c =
    let u = c.args.book.now.universe in
    Writes-cut c.from_residual.result (equality_text c.args.target.holds ++ value_text u (sort_of u c.args.target.cell) c.args.target.value) c.from_residual.ensures.0 c.in_err-write_cell.ensures

pub returns-in_err-write_equality : goal.returns-in_err-write_equality
returns-in_err-write_equality g c =
    let u = c.args.book.now.universe in
    Writes-then c.in_ok-write_cell.ensures
    (Writes-cut c.from_residual-in_err-write_equality.result (value_text u (sort_of u c.args.target.cell) c.args.target.value) c.from_residual-in_err-write_equality.ensures.0 c.in_err-write_equality.ensures)

pub returns : goal.returns
returns g c =
    let u = c.args.book.now.universe in
    Writes-then c.in_ok-write_cell.ensures
    (Writes-then c.in_ok-write_equality.ensures (Writes-same (ap (λ s. value_text u s c.args.target.value) c.sort_of.ensures) c.write_value.ensures))
