use Rattle.std.proofs.Common.{ℕ, List, arith, [], sym}
use Rattle.std.proofs.lemmas.Option.{slice_get-get_or}
use Rattle.pc_sheet.specs.Sheet.{Table}
use Rattle.pc_writer.specs.SheetText.{lines_text, row_lines}
use Rattle.pc_writer.proofs.InPieces.{cut_in_piece, one_more_piece, all_pieces, lines-of_each}
use Rattle.pc_writer.proofs.InTurn.{Writes-same}
use Rattle.pc_writer.proofs.sheet.write_rows.Goals as goal

pub returns-in_err-write_rows_of : goal.returns-in_err-write_rows_of
returns-in_err-write_rows_of g c =
    let u = c.args.book.now.universe in
    let piece : Table → List ℕ = λ t. lines_text (row_lines u t) in
    let is = slice_get-get_or u.tables c.loop-i.i (record { name = []; sorts = []; rows = [] }) (omega arith) in
    Writes-same (sym (lines-of_each (row_lines u) u.tables)) (cut_in_piece piece u.tables c.loop-i.i _ is c.loop-i.invariant c.from_residual.result c.from_residual.ensures.0 c.in_err-write_rows_of.ensures)

pub loop-i-preserved : goal.loop-i-preserved
loop-i-preserved g c =
    let u = c.args.book.now.universe in
    let piece : Table → List ℕ = λ t. lines_text (row_lines u t) in
    let is = slice_get-get_or u.tables c.loop-i.i (record { name = []; sorts = []; rows = [] }) (omega arith) in
    one_more_piece piece u.tables c.loop-i.i _ is c.loop-i.invariant c.in_ok-write_rows_of.ensures

pub returns : goal.returns
returns g c =
    let u = c.args.book.now.universe in
    let piece : Table → List ℕ = λ t. lines_text (row_lines u t) in
    Writes-same (sym (lines-of_each (row_lines u) u.tables)) (all_pieces piece u.tables c.loop-i.i (omega (arith, c.tables-i-end.ensures)) c.loop-i.invariant)
