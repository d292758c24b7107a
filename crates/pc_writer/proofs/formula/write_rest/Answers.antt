use Rattle.std.proofs.Common.{ap, map, sym, ◌∙◌, Some, arith, length, refl}
use Rattle.std.proofs.lemmas.List.{length-map}
use Rattle.pc_sheet.specs.Views.{added_of}
use Rattle.pc_writer.specs.FormulaText.{added_text}
use Rattle.pc_writer.specs.inside.Scope.{variables_of}
use Rattle.pc_writer.specs.inside.Writable.{IsWritablePart}
use Rattle.pc_writer.proofs.Names.{viewed, holds_at}
use Rattle.pc_writer.proofs.InPieces.{cut_in_piece, one_more_piece, all_pieces}
use Rattle.pc_writer.proofs.InTurn.{Writes-then, Writes-front, Writes-same}
use Rattle.pc_writer.proofs.formula.write_rest.Goals as goal

pub write_term-requires : goal.write_term-requires
write_term-requires g c =
    let u = c.args.book.now.universe in
    holds_at added_of (map added_of c.args.rest.now) c.args.rest.now refl c.loop-sign.sign-index c.loop-sign-item.result (omega arith) c.loop-sign-item.is (IsWritablePart u (length c.args.variables.now)) c.requires

pub returns-in_err-write_text : goal.returns-in_err-write_text
returns-in_err-write_text g c =
    let u = c.args.book.now.universe in
    let vs = variables_of c.args.variables.now in
    let rest = c.args.rest.now in
    let piece = added_text u vs in
    let is = viewed added_of rest c.loop-sign.sign-index c.loop-sign-item.result (omega arith) ∙ ap (λ p. Some (added_of p)) (sym c.loop-sign-item.is) in
    cut_in_piece piece (map added_of rest) c.loop-sign.sign-index _ is c.loop-sign.invariant c.from_residual.result c.from_residual.ensures.0 (Writes-front _ (Writes-same (c.as_bytes.ensures.value ∙ c.sign_text.ensures) c.in_err-write_text.ensures))

pub returns-in_err-write_term : goal.returns-in_err-write_term
returns-in_err-write_term g c =
    let u = c.args.book.now.universe in
    let vs = variables_of c.args.variables.now in
    let rest = c.args.rest.now in
    let piece = added_text u vs in
    let is = viewed added_of rest c.loop-sign.sign-index c.loop-sign-item.result (omega arith) ∙ ap (λ p. Some (added_of p)) (sym c.loop-sign-item.is) in
    cut_in_piece piece (map added_of rest) c.loop-sign.sign-index _ is c.loop-sign.invariant c.from_residual-in_err-write_term.result c.from_residual-in_err-write_term.ensures.0 (Writes-then (Writes-same (c.as_bytes.ensures.value ∙ c.sign_text.ensures) c.in_ok-write_text.ensures) c.in_err-write_term.ensures)

pub loop-sign-preserved : goal.loop-sign-preserved
loop-sign-preserved g c =
    let u = c.args.book.now.universe in
    let vs = variables_of c.args.variables.now in
    let rest = c.args.rest.now in
    let piece = added_text u vs in
    let is = viewed added_of rest c.loop-sign.sign-index c.loop-sign-item.result (omega arith) ∙ ap (λ p. Some (added_of p)) (sym c.loop-sign-item.is) in
    one_more_piece piece (map added_of rest) c.loop-sign.sign-index _ is c.loop-sign.invariant (Writes-then (Writes-same (c.as_bytes.ensures.value ∙ c.sign_text.ensures) c.in_ok-write_text.ensures) c.in_ok-write_term.ensures)

pub returns : goal.returns
returns g c =
    let u = c.args.book.now.universe in
    let vs = variables_of c.args.variables.now in
    all_pieces (added_text u vs) (map added_of c.args.rest.now) c.loop-sign.sign-index (omega (arith, length-map c.args.rest.now added_of)) c.loop-sign.invariant
