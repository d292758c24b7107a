use Rattle.std.proofs.Common.{Err, [], ◌∷◌, ◌++◌, codes, refl}
use Rattle.pc_writer.specs.Spelling.{sort_of}
use Rattle.pc_writer.proofs.InTurn.{Writes-then, Writes-cut}
use Rattle.pc_display.specs.Show.{entered_text, mark_of}
use Rattle.pc_display.proofs.lines.write_head_line.Goals as goal

pub returns-in_err-write_cell : goal.returns-in_err-write_cell
returns-in_err-write_cell g c =
    let u = c.args.book.now.universe in
    Writes-cut c.from_residual.result (10 ∷ []) c.from_residual.ensures.0
    (Writes-cut {T = Unit {0}} {U = Unit {0}} (Err c.in_err-write_cell.field-0.0) (codes " : " ++ (entered_text u (sort_of u c.args.cell) c.args.entries.now ++ mark_of c.args.clashes)) refl c.in_err-write_cell.ensures)

pub returns-in_err-write_text : goal.returns-in_err-write_text
returns-in_err-write_text g c =
    let u = c.args.book.now.universe in
    Writes-cut c.from_residual-in_err-write_text.result (10 ∷ []) c.from_residual-in_err-write_text.ensures.0
    (Writes-then c.in_ok-write_cell.ensures
    (Writes-cut {T = Unit {0}} {U = Unit {0}} (Err c.in_err-write_text.field-0.0) (entered_text u (sort_of u c.args.cell) c.args.entries.now ++ mark_of c.args.clashes) refl c.in_err-write_text.ensures))

pub returns-in_err-write_entered : goal.returns-in_err-write_entered
returns-in_err-write_entered g c =
    Writes-cut c.from_residual-in_err-write_entered.result (10 ∷ []) c.from_residual-in_err-write_entered.ensures.0
    (Writes-then c.in_ok-write_cell.ensures
    (Writes-then c.in_ok-write_text.ensures
    (Writes-cut {T = Unit {0}} {U = Unit {0}} (Err c.in_err-write_entered.field-0.0) (mark_of c.args.clashes) refl c.in_err-write_entered.ensures)))

pub returns-in_err-write_mark : goal.returns-in_err-write_mark
returns-in_err-write_mark g c =
    Writes-cut c.from_residual-in_err-write_mark.result (10 ∷ []) c.from_residual-in_err-write_mark.ensures.0
    (Writes-then c.in_ok-write_cell.ensures (Writes-then c.in_ok-write_text.ensures (Writes-then c.in_ok-write_entered.ensures c.in_err-write_mark.ensures)))

pub returns : goal.returns
returns g c =
    Writes-then
    (Writes-then c.in_ok-write_cell.ensures (Writes-then c.in_ok-write_text.ensures (Writes-then c.in_ok-write_entered.ensures c.in_ok-write_mark.ensures)))
    c.write_text-2.ensures
