use Rattle.std.proofs.Common.{ap, map, ◌≡◌, [], codes, sym, subst}
use Rattle.pc_sheet.specs.Entailment.{AreWithin}
use Rattle.pc_sheet.specs.Sizes.{size_of}
use Rattle.pc_writer.specs.FormulaText.{table_at}
use Rattle.pc_writer.specs.Spelling.{joined, value_texts}
use Rattle.pc_writer.proofs.Names.{at_place}
use Rattle.pc_writer.proofs.InTurn.{Writes-then, Writes-cut, Writes-same}
use Rattle.pc_writer.proofs.lines.write_row.Goals as goal

pub returns-in_err-write_text : goal.returns-in_err-write_text
returns-in_err-write_text g c =
    let u = c.args.book.now.universe in
    Writes-cut c.from_residual.result _ c.from_residual.ensures.0 c.in_err-write_text.ensures

pub returns-in_err-write_table_name : goal.returns-in_err-write_table_name
returns-in_err-write_table_name g c =
    let u = c.args.book.now.universe in
    Writes-then c.in_ok-write_text.ensures (Writes-cut c.from_residual-in_err-write_table_name.result _ c.from_residual-in_err-write_table_name.ensures.0 c.in_err-write_table_name.ensures)

pub returns-in_err-write_text-2 : goal.returns-in_err-write_text-2
returns-in_err-write_text-2 g c =
    let u = c.args.book.now.universe in
    Writes-then c.in_ok-write_text.ensures (Writes-then c.in_ok-write_table_name.ensures (Writes-cut c.from_residual-in_err-write_text-2.result _ c.from_residual-in_err-write_text-2.ensures.0 c.in_err-write_text-2.ensures))

pub returns-in_err-write_row_values : goal.returns-in_err-write_row_values
returns-in_err-write_row_values g c =
    let u = c.args.book.now.universe in
    let sorts : c.table_sorts.result.now ≡ (table_at u c.args.table).sorts = at_place u.tables c.args.table.0 (record { name = []; sorts = []; rows = [] }) (λ declared. c.table_sorts.result.now ≡ declared.sorts) c.table_sorts.ensures in
    Writes-then c.in_ok-write_text.ensures (Writes-then c.in_ok-write_table_name.ensures (Writes-then c.in_ok-write_text-2.ensures (Writes-cut c.from_residual-in_err-write_row_values.result _ c.from_residual-in_err-write_row_values.ensures.0 (Writes-same (ap (λ ss. joined (codes ", ") (value_texts u ss c.args.row.now)) sorts) c.in_err-write_row_values.ensures))))

pub returns : goal.returns
returns g c =
    let u = c.args.book.now.universe in
    let sorts : c.table_sorts.result.now ≡ (table_at u c.args.table).sorts = at_place u.tables c.args.table.0 (record { name = []; sorts = []; rows = [] }) (λ declared. c.table_sorts.result.now ≡ declared.sorts) c.table_sorts.ensures in
    Writes-then c.in_ok-write_text.ensures (Writes-then c.in_ok-write_table_name.ensures (Writes-then c.in_ok-write_text-2.ensures (Writes-then (Writes-same (ap (λ ss. joined (codes ", ") (value_texts u ss c.args.row.now)) sorts) c.in_ok-write_row_values.ensures) c.write_text-3.ensures)))

pub write_row_values-requires : goal.write_row_values-requires
write_row_values-requires g c =
    let u = c.args.book.now.universe in
    let sorts : c.table_sorts.result.now ≡ (table_at u c.args.table).sorts = at_place u.tables c.args.table.0 (record { name = []; sorts = []; rows = [] }) (λ declared. c.table_sorts.result.now ≡ declared.sorts) c.table_sorts.ensures in
    subst (λ ss. AreWithin (map (size_of u) ss) c.args.row.now) (sym sorts) c.requires.row
