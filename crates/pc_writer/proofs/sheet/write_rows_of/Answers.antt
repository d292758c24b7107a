use Rattle.std.proofs.Common.{◌≡◌, ◌<◌, arith, map, [], length, Some, slice_get, ap, ◌∙◌, subst}
use Rattle.std.specs.Option.{option_map}
use Rattle.std.proofs.lemmas.List.{length-map}
use Rattle.std.proofs.lemmas.List.Elements.{All-get_or}
use Rattle.std.proofs.lemmas.Option.{slice_get-map, slice_get_within, get_or_from_slice_get}
use Rattle.pc_sheet.specs.Entailment.{AreWithin}
use Rattle.pc_sheet.specs.Sizes.{size_of}
use Rattle.pc_writer.specs.FormulaText.{table_at}
use Rattle.pc_writer.specs.SheetText.{ended, row_line, row_lines}
use Rattle.pc_writer.proofs.Names.{at_place, place_there}
use Rattle.pc_writer.proofs.Universe.{table_formed}
use Rattle.pc_writer.proofs.InPieces.{cut_in_piece, one_more_piece, all_pieces}
use Rattle.pc_writer.proofs.InTurn.{Writes-then, Writes-front}
use Rattle.pc_writer.proofs.sheet.write_rows_of.Goals as goal

pub returns-in_err-write_row : goal.returns-in_err-write_row
returns-in_err-write_row g c =
    let u = c.args.book.now.universe in
    let t = table_at u c.args.table in
    let row : slice_get t.rows c.loop-i.i ≡ Some c.row.result.now = at_place u.tables c.args.table.0 (record { name = []; sorts = []; rows = [] }) (λ declared. slice_get declared.rows c.loop-i.i ≡ Some c.row.result.now) c.row.ensures in
    let is = slice_get-map (row_line u t) t.rows c.loop-i.i ∙ ap (option_map (row_line u t)) row in
    cut_in_piece ended (row_lines u t) c.loop-i.i _ is c.loop-i.invariant c.from_residual.result c.from_residual.ensures.0 (Writes-front _ c.in_err-write_row.ensures)

pub returns-in_err-write_text : goal.returns-in_err-write_text
returns-in_err-write_text g c =
    let u = c.args.book.now.universe in
    let t = table_at u c.args.table in
    let row : slice_get t.rows c.loop-i.i ≡ Some c.row.result.now = at_place u.tables c.args.table.0 (record { name = []; sorts = []; rows = [] }) (λ declared. slice_get declared.rows c.loop-i.i ≡ Some c.row.result.now) c.row.ensures in
    let is = slice_get-map (row_line u t) t.rows c.loop-i.i ∙ ap (option_map (row_line u t)) row in
    cut_in_piece ended (row_lines u t) c.loop-i.i _ is c.loop-i.invariant c.from_residual-in_err-write_text.result c.from_residual-in_err-write_text.ensures.0 (Writes-then c.in_ok-write_row.ensures c.in_err-write_text.ensures)

pub loop-i-preserved : goal.loop-i-preserved
loop-i-preserved g c =
    let u = c.args.book.now.universe in
    let t = table_at u c.args.table in
    let row : slice_get t.rows c.loop-i.i ≡ Some c.row.result.now = at_place u.tables c.args.table.0 (record { name = []; sorts = []; rows = [] }) (λ declared. slice_get declared.rows c.loop-i.i ≡ Some c.row.result.now) c.row.ensures in
    let is = slice_get-map (row_line u t) t.rows c.loop-i.i ∙ ap (option_map (row_line u t)) row in
    one_more_piece ended (row_lines u t) c.loop-i.i _ is c.loop-i.invariant (Writes-then c.in_ok-write_row.ensures c.in_ok-write_text.ensures)

pub row-requires : goal.row-requires
row-requires g c =
    let u = c.args.book.now.universe in
    let t = table_at u c.args.table in
    let many : c.rows-i-end.result ≡ length t.rows = at_place u.tables c.args.table.0 (record { name = []; sorts = []; rows = [] }) (λ declared. c.rows-i-end.result ≡ length declared.rows) c.rows-i-end.ensures in
    place_there u.tables c.args.table.0 (record { name = []; sorts = []; rows = [] }) (λ declared. c.loop-i.i < length declared.rows) c.requires.table (omega (arith, many))

pub write_row-requires-clause-row : goal.write_row-requires-clause-row
write_row-requires-clause-row g c =
    let u = c.args.book.now.universe in
    let t = table_at u c.args.table in
    let row : slice_get t.rows c.loop-i.i ≡ Some c.row.result.now = at_place u.tables c.args.table.0 (record { name = []; sorts = []; rows = [] }) (λ declared. slice_get declared.rows c.loop-i.i ≡ Some c.row.result.now) c.row.ensures in
    subst (AreWithin (map (size_of u) t.sorts)) (get_or_from_slice_get t.rows c.loop-i.i c.row.result.now c.row.result.now row) (All-get_or (AreWithin (map (size_of u) t.sorts)) t.rows c.loop-i.i c.row.result.now (slice_get_within t.rows c.loop-i.i c.row.result.now row) (table_formed u c.args.table c.requires.formed.universe c.requires.table).rows)

pub returns : goal.returns
returns g c =
    let u = c.args.book.now.universe in
    let t = table_at u c.args.table in
    let many : c.rows-i-end.result ≡ length t.rows = at_place u.tables c.args.table.0 (record { name = []; sorts = []; rows = [] }) (λ declared. c.rows-i-end.result ≡ length declared.rows) c.rows-i-end.ensures in
    all_pieces ended (row_lines u t) c.loop-i.i (omega (arith, many, length-map t.rows (row_line u t))) c.loop-i.invariant
