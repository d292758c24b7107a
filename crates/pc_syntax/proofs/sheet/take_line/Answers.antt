use Rattle.std.proofs.Common.{◌≡◌, None, sym, ◌∙◌, rules, subst}
use Rattle.pc_syntax.specs.Part.{IsAtFaultIn}
use Rattle.pc_syntax.specs.Told.{form_of, Blames}
use Rattle.pc_syntax.proofs.Progress.{line_blamed, place_blamed}
use Rattle.pc_syntax.proofs.sheet.take_line.Goals as goal

pub returns-in-Err : goal.returns-in-Err
returns-in-Err c =
    subst (λ f. Blames f c.args.number (λ e. IsAtFaultIn c.args.part c.args.line.now e)) (sym c.sheet_fault.ensures)
    (line_blamed c.in-Err.fault c.args.number c.args.part c.args.line.now c.in-Err.ensures)

pub returns-in_default : goal.returns-in_default
returns-in_default c =
    let none : c.next_part.result ≡ None = search rules in
    subst (λ f. Blames f c.args.number (λ e. IsAtFaultIn c.args.part c.args.line.now e)) (sym c.misplaced.ensures)
    (place_blamed c.args.part (form_of c.in-Ok.form) c.args.number c.args.line.now c.in-Ok.ensures (sym c.next_part.ensures ∙ none))

pub returns : goal.returns
returns c = record { form = form_of c.in-Ok.form; is = c.in-Ok.ensures; goes = sym c.next_part.ensures ∙ c.in-Some.is; adds = c.in_ok-add.ensures }
