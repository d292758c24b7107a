use Rattle.std.proofs.Common.{arith, ◌≤◌}
use Rattle.pc_sheet.specs.Sizes.{size_of, values_at}
use Rattle.pc_sheet.specs.WellSorted.{names_of_values}
use Rattle.pc_writer.specs.SheetText.{spaced}
use Rattle.pc_writer.proofs.Universe.{name_at, length-names, size_within}
use Rattle.pc_writer.proofs.InPieces.{cut_in_piece, one_more_piece, all_pieces}
use Rattle.pc_writer.proofs.InTurn.{Writes-then, Writes-front}
use Rattle.pc_writer.proofs.lines.write_names.Goals as goal

pub overflow_cast-i : goal.overflow_cast-i
overflow_cast-i g c =
    let u = c.args.book.now.universe in
    let few : size_of u c.args.sort ≤ 256 = size_within u c.args.sort c.requires.formed c.requires.sort in
    omega (arith, few, c.size_of-i-end.ensures.exact)

pub returns-in_err-write_text : goal.returns-in_err-write_text
returns-in_err-write_text g c =
    let u = c.args.book.now.universe in
    let v = values_at u c.args.sort in
    let is = name_at v c.loop-i.i c.requires.listed (omega (arith, c.size_of-i-end.ensures.exact)) in
    cut_in_piece spaced (names_of_values v) c.loop-i.i _ is c.loop-i.invariant c.from_residual.result c.from_residual.ensures.0 (Writes-front _ c.in_err-write_text.ensures)

pub returns-in_err-write_value : goal.returns-in_err-write_value
returns-in_err-write_value g c =
    let u = c.args.book.now.universe in
    let v = values_at u c.args.sort in
    let is = name_at v c.loop-i.i c.requires.listed (omega (arith, c.size_of-i-end.ensures.exact)) in
    cut_in_piece spaced (names_of_values v) c.loop-i.i _ is c.loop-i.invariant c.from_residual-in_err-write_value.result c.from_residual-in_err-write_value.ensures.0 (Writes-then c.in_ok-write_text.ensures c.in_err-write_value.ensures)

pub loop-i-preserved : goal.loop-i-preserved
loop-i-preserved g c =
    let u = c.args.book.now.universe in
    let v = values_at u c.args.sort in
    let is = name_at v c.loop-i.i c.requires.listed (omega (arith, c.size_of-i-end.ensures.exact)) in
    one_more_piece spaced (names_of_values v) c.loop-i.i _ is c.loop-i.invariant (Writes-then c.in_ok-write_text.ensures c.in_ok-write_value.ensures)

pub returns : goal.returns
returns g c =
    let u = c.args.book.now.universe in
    let v = values_at u c.args.sort in
    all_pieces spaced (names_of_values v) c.loop-i.i (omega (arith, length-names v c.requires.listed, c.size_of-i-end.ensures.exact)) c.loop-i.invariant
