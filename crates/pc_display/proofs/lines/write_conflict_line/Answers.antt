use Rattle.std.proofs.Common.{Err, [], ◌∷◌, ◌++◌, codes, refl}
use Rattle.pc_writer.proofs.InTurn.{Writes-then, Writes-cut}
use Rattle.pc_display.specs.Show.{against, value_told}
use Rattle.pc_display.proofs.lines.write_conflict_line.Goals as goal

pub returns-in_err-write_text : goal.returns-in_err-write_text
returns-in_err-write_text g c =
    let u = c.args.book.now.universe in
    Writes-cut c.from_residual.result (10 ∷ []) c.from_residual.ensures.0
    (Writes-cut {T = Unit {0}} {U = Unit {0}} (Err c.in_err-write_text.field-0.0) (value_told u c.args.sort c.args.several c.args.value ++ (codes "against " ++ against u c.args.support.now)) refl c.in_err-write_text.ensures)

pub returns-in_err-write_told : goal.returns-in_err-write_told
returns-in_err-write_told g c =
    let u = c.args.book.now.universe in
    Writes-cut c.from_residual-in_err-write_told.result (10 ∷ []) c.from_residual-in_err-write_told.ensures.0
    (Writes-then c.in_ok-write_text.ensures (Writes-cut {T = Unit {0}} {U = Unit {0}} (Err c.in_err-write_told.field-0.0) (codes "against " ++ against u c.args.support.now) refl c.in_err-write_told.ensures))

pub returns-in_err-write_text-2 : goal.returns-in_err-write_text-2
returns-in_err-write_text-2 g c =
    let u = c.args.book.now.universe in
    Writes-cut c.from_residual-in_err-write_text-2.result (10 ∷ []) c.from_residual-in_err-write_text-2.ensures.0
    (Writes-then c.in_ok-write_text.ensures
    (Writes-then c.in_ok-write_told.ensures
    (Writes-cut {T = Unit {0}} {U = Unit {0}} (Err c.in_err-write_text-2.field-0.0) (against u c.args.support.now) refl c.in_err-write_text-2.ensures)))

pub returns-in_err-write_against : goal.returns-in_err-write_against
returns-in_err-write_against g c =
    Writes-cut c.from_residual-in_err-write_against.result (10 ∷ []) c.from_residual-in_err-write_against.ensures.0
    (Writes-then c.in_ok-write_text.ensures (Writes-then c.in_ok-write_told.ensures (Writes-then c.in_ok-write_text-2.ensures c.in_err-write_against.ensures)))

pub returns : goal.returns
returns g c =
    Writes-then
    (Writes-then c.in_ok-write_text.ensures (Writes-then c.in_ok-write_told.ensures (Writes-then c.in_ok-write_text-2.ensures c.in_ok-write_against.ensures)))
    c.write_text-3.ensures
