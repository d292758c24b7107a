use Rattle.std.proofs.Common.{◌≡◌, ◌++◌, true, All, Some, None, codes, refl, sym, ◌∙◌, ap, subst}
use Rattle.pc_sheet.specs.Sheet.{Sheet}
use Rattle.pc_sheet.specs.WellFormed.{IsEntryOf}
use Rattle.pc_sheet.specs.declared.ids.Target.{Target}
use Rattle.pc_writer.specs.Spelling.{sort_of, value_text}
use Rattle.pc_writer.proofs.InTurn.{Writes-nil, Writes-same}
use Rattle.pc_display.specs.Show.{because, value_line}
use Rattle.pc_writer.specs.SheetText.{ended}
use Rattle.pc_display.proofs.SheetLemmas.{is_target, same_reason, support_fits}
use Rattle.pc_display.proofs.display.write_if_implied.Goals as goal

pub support-requires : goal.support-requires
support-requires g c = is_target (g.V.Supports.sheet c.args.view.now).universe c.args.cell c.requires.cell c.args.value true c.requires.value

pub write_value_line-requires-clause-support : goal.write_value_line-requires-clause-support
write_value_line-requires-clause-support g c =
    let P : Sheet → Type 0 = λ s. All (IsEntryOf s.universe) c.in-Some.support.now in
    let t : Target = record { cell = c.args.cell; value = c.args.value; holds = true } in
    subst P (sym c.book-book.ensures) (support_fits (g.V.Supports.sheet c.args.view.now) c.requires.formed t (Some c.in-Some.support.now) c.in-Some.support.now c.in-Some.ensures refl)

pub returns-in-None : goal.returns-in-None
returns-in-None g c = λ reason is.
    let sheet = g.V.Supports.sheet c.args.view.now in
    let u = sheet.universe in
    let t : Target = record { cell = c.args.cell; value = c.args.value; holds = true } in
    let none : None ≡ reason t = same_reason sheet t None (reason t) c.in-None.ensures (is t (is_target u c.args.cell c.requires.cell c.args.value true c.requires.value)) in
    Writes-same (ap (value_line u (sort_of u c.args.cell) c.args.value) none) (Writes-nil g.O.Sink.given g.O.Sink.faults c.args.out.now tt)

pub returns-in-Some : goal.returns-in-Some
returns-in-Some g c = λ reason is.
    let sheet = g.V.Supports.sheet c.args.view.now in
    let u = sheet.universe in
    let t : Target = record { cell = c.args.cell; value = c.args.value; holds = true } in
    let some : Some c.in-Some.support.now ≡ reason t = same_reason sheet t (Some c.in-Some.support.now) (reason t) c.in-Some.ensures (is t (is_target u c.args.cell c.requires.cell c.args.value true c.requires.value)) in
    let sort = c.sort_of.ensures ∙ ap (λ s. sort_of s.universe c.args.cell) c.book-book.ensures in
    Writes-same
    (ap (λ s. ended (codes "  = " ++ (value_text s.universe c.sort_of.result c.args.value ++ because s.universe c.in-Some.support.now))) c.book-book.ensures
    ∙ ap (λ s. ended (codes "  = " ++ (value_text u s c.args.value ++ because u c.in-Some.support.now))) sort
    ∙ ap (value_line u (sort_of u c.args.cell) c.args.value) some)
    c.write_value_line.ensures
