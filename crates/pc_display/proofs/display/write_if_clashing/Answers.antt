use Rattle.std.proofs.Common.{◌≡◌, ◌<◌, ◌++◌, All, Some, None, codes, refl, sym, ◌∙◌, ap, subst}
use Rattle.pc_sheet.specs.Entailment.{opposite_of}
use Rattle.pc_sheet.specs.Sheet.{Sheet}
use Rattle.pc_sheet.specs.Sizes.{size_of}
use Rattle.pc_sheet.specs.WellFormed.{IsEntryOf}
use Rattle.pc_writer.specs.SheetText.{ended}
use Rattle.pc_writer.proofs.InTurn.{Writes-nil, Writes-same}
use Rattle.pc_display.specs.Show.{against, conflict_line, conflict_of, value_told}
use Rattle.pc_display.proofs.SheetLemmas.{same_conflict, support_fits}
use Rattle.pc_display.proofs.display.write_if_clashing.Goals as goal

pub write_conflict_line-requires-clause-value : goal.write_conflict_line-requires-clause-value
write_conflict_line-requires-clause-value g c =
    let P : Sheet → Type 0 = λ s. c.args.entry.value.0 < size_of s.universe c.args.sort in
    subst P (sym c.book.ensures) c.requires.value

pub write_conflict_line-requires-clause-support : goal.write_conflict_line-requires-clause-support
write_conflict_line-requires-clause-support g c =
    let P : Sheet → Type 0 = λ s. All (IsEntryOf s.universe) c.in-Some.support.now in
    subst P (sym c.book.ensures) (support_fits (g.V.Supports.sheet c.args.view.now) c.requires.formed (opposite_of c.args.entry) (Some c.in-Some.support.now) c.in-Some.support.now c.in-Some.ensures refl)

pub returns-in-None : goal.returns-in-None
returns-in-None g c = λ reason is.
    let sheet = g.V.Supports.sheet c.args.view.now in
    let none : None ≡ conflict_of reason c.args.entry = same_conflict sheet reason is c.args.entry c.requires.entry None c.in-None.ensures in
    Writes-same (ap (conflict_line sheet.universe c.args.sort c.args.several c.args.entry.value) none) (Writes-nil g.O.Sink.given g.O.Sink.faults c.args.out.now tt)

pub returns-in-Some : goal.returns-in-Some
returns-in-Some g c = λ reason is.
    let sheet = g.V.Supports.sheet c.args.view.now in
    let v = c.args.entry.value in
    let support = c.in-Some.support.now in
    let some : Some support ≡ conflict_of reason c.args.entry = same_conflict sheet reason is c.args.entry c.requires.entry (Some support) c.in-Some.ensures in
    Writes-same
    (ap (λ s. ended (codes "  ! " ++ (value_told s.universe c.args.sort c.args.several v ++ (codes "against " ++ against s.universe support)))) c.book.ensures
    ∙ ap (conflict_line sheet.universe c.args.sort c.args.several v) some)
    c.write_conflict_line.ensures
