use Rattle.std.proofs.Common.{Err, [], ◌∷◌, ◌++◌, refl}
use Rattle.pc_writer.specs.Spelling.{value_text}
use Rattle.pc_writer.proofs.InTurn.{Writes-then, Writes-cut}
use Rattle.pc_display.specs.Show.{because}
use Rattle.pc_display.proofs.lines.write_value_line.Goals as goal

pub returns-in_err-write_text : goal.returns-in_err-write_text
returns-in_err-write_text g c =
    let u = c.args.book.now.universe in
    Writes-cut c.from_residual.result (10 ∷ []) c.from_residual.ensures.0
    (Writes-cut {T = Unit {0}} {U = Unit {0}} (Err c.in_err-write_text.field-0.0) (value_text u c.args.sort c.args.value ++ because u c.args.support.now) refl c.in_err-write_text.ensures)

pub returns-in_err-write_value : goal.returns-in_err-write_value
returns-in_err-write_value g c =
    let u = c.args.book.now.universe in
    Writes-cut c.from_residual-in_err-write_value.result (10 ∷ []) c.from_residual-in_err-write_value.ensures.0
    (Writes-then c.in_ok-write_text.ensures (Writes-cut {T = Unit {0}} {U = Unit {0}} (Err c.in_err-write_value.field-0.0) (because u c.args.support.now) refl c.in_err-write_value.ensures))

pub returns-in_err-write_because : goal.returns-in_err-write_because
returns-in_err-write_because g c =
    Writes-cut c.from_residual-in_err-write_because.result (10 ∷ []) c.from_residual-in_err-write_because.ensures.0
    (Writes-then c.in_ok-write_text.ensures (Writes-then c.in_ok-write_value.ensures c.in_err-write_because.ensures))

pub returns : goal.returns
returns g c = Writes-then (Writes-then c.in_ok-write_text.ensures (Writes-then c.in_ok-write_value.ensures c.in_ok-write_because.ensures)) c.write_text-2.ensures
