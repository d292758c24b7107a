use Rattle.std.proofs.Common.{All, ap, map, ◌≡◌, [], sym, subst}
use Rattle.pc_sheet.specs.WellFormed.{IsDeclaredSort}
use Rattle.pc_writer.specs.FormulaText.{in_parentheses, sort_name, table_at}
use Rattle.pc_writer.proofs.Names.{at_place}
use Rattle.pc_writer.proofs.Universe.{table_formed}
use Rattle.pc_writer.proofs.InTurn.{Writes-then, Writes-cut, Writes-same}
use Rattle.pc_writer.proofs.lines.write_table.Goals as goal

pub returns-in_err-write_text : goal.returns-in_err-write_text
returns-in_err-write_text g c =
    let u = c.args.book.now.universe in
    Writes-cut c.from_residual.result _ c.from_residual.ensures.0 c.in_err-write_text.ensures

pub returns-in_err-write_table_name : goal.returns-in_err-write_table_name
returns-in_err-write_table_name g c =
    let u = c.args.book.now.universe in
    Writes-then c.in_ok-write_text.ensures (Writes-cut c.from_residual-in_err-write_table_name.result _ c.from_residual-in_err-write_table_name.ensures.0 c.in_err-write_table_name.ensures)

pub returns : goal.returns
returns g c =
    let u = c.args.book.now.universe in
    let sorts : c.table_sorts.result.now ≡ (table_at u c.args.table).sorts = at_place u.tables c.args.table.0 (record { name = []; sorts = []; rows = [] }) (λ declared. c.table_sorts.result.now ≡ declared.sorts) c.table_sorts.ensures in
    Writes-then c.in_ok-write_text.ensures (Writes-then c.in_ok-write_table_name.ensures (Writes-same (ap (λ ss. in_parentheses (map (sort_name u) ss)) sorts) c.write_argument_sorts.ensures))

pub write_argument_sorts-requires : goal.write_argument_sorts-requires
write_argument_sorts-requires g c =
    let u = c.args.book.now.universe in
    let sorts : c.table_sorts.result.now ≡ (table_at u c.args.table).sorts = at_place u.tables c.args.table.0 (record { name = []; sorts = []; rows = [] }) (λ declared. c.table_sorts.result.now ≡ declared.sorts) c.table_sorts.ensures in
    subst (All (IsDeclaredSort u)) (sym sorts) (table_formed u c.args.table c.requires.formed c.requires.table).sorts
