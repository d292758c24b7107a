use Rattle.std.proofs.Common.{arith, map, []}
use Rattle.std.proofs.lemmas.List.{length-map}
use Rattle.pc_writer.specs.SheetText.{ended, family_line}
use Rattle.pc_writer.proofs.Names.{viewed}
use Rattle.pc_writer.proofs.InPieces.{cut_in_piece, one_more_piece, all_pieces}
use Rattle.pc_writer.proofs.InTurn.{Writes-then, Writes-front}
use Rattle.pc_writer.proofs.sheet.write_families.Goals as goal

pub returns-in_err-write_family : goal.returns-in_err-write_family
returns-in_err-write_family g c =
    let u = c.args.book.now.universe in
    let is = viewed (family_line u) u.families c.loop-i.i (record { name = []; sorts = []; result_sort = record { 0 = 0 } }) (omega arith) in
    cut_in_piece ended (map (family_line u) u.families) c.loop-i.i _ is c.loop-i.invariant c.from_residual.result c.from_residual.ensures.0 (Writes-front _ c.in_err-write_family.ensures)

pub returns-in_err-write_text : goal.returns-in_err-write_text
returns-in_err-write_text g c =
    let u = c.args.book.now.universe in
    let is = viewed (family_line u) u.families c.loop-i.i (record { name = []; sorts = []; result_sort = record { 0 = 0 } }) (omega arith) in
    cut_in_piece ended (map (family_line u) u.families) c.loop-i.i _ is c.loop-i.invariant c.from_residual-in_err-write_text.result c.from_residual-in_err-write_text.ensures.0 (Writes-then c.in_ok-write_family.ensures c.in_err-write_text.ensures)

pub loop-i-preserved : goal.loop-i-preserved
loop-i-preserved g c =
    let u = c.args.book.now.universe in
    let is = viewed (family_line u) u.families c.loop-i.i (record { name = []; sorts = []; result_sort = record { 0 = 0 } }) (omega arith) in
    one_more_piece ended (map (family_line u) u.families) c.loop-i.i _ is c.loop-i.invariant (Writes-then c.in_ok-write_family.ensures c.in_ok-write_text.ensures)

pub returns : goal.returns
returns g c =
    let u = c.args.book.now.universe in
    all_pieces ended (map (family_line u) u.families) c.loop-i.i (omega (arith, length-map u.families (family_line u))) c.loop-i.invariant
