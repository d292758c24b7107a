use Rattle.std.proofs.Common.{◌≡◌, All, Some, None, rules, refl, sym, ◌∙◌, ap, subst}
use Rattle.std.proofs.lemmas.Result.{IfOk-weaker}
use Rattle.serde_json.specs.Data.{null}
use Rattle.serde_json.specs.View.{view}
use Rattle.serde_json.specs.declared.value.Value.{Null, the_lemmas}
use Rattle.pc_sheet.specs.Entailment.{opposite_of}
use Rattle.pc_sheet.specs.Sheet.{Sheet}
use Rattle.pc_sheet.specs.WellFormed.{IsEntryOf}
use Rattle.pc_display.specs.Show.{conflict_of}
use Rattle.pc_display.specs.Json.{conflict_data, entries_data}
use Rattle.pc_display.proofs.SheetLemmas.{same_conflict, support_fits}
use Rattle.pc_display.proofs.objects.conflict_json.Goals as goal

pub entries_json-requires-clause-entries : goal.entries_json-requires-clause-entries
entries_json-requires-clause-entries g c =
    let P : Sheet → Type 0 = λ s. All (IsEntryOf s.universe) c.in-Some.support.now in
    subst P (sym c.book.ensures) (support_fits (g.V.Supports.sheet c.args.view.now) c.requires.formed (opposite_of c.args.entry) (Some c.in-Some.support.now) c.in-Some.support.now c.in-Some.ensures refl)

pub returns-in-None : goal.returns-in-None
returns-in-None g c = λ reason is.
    let sheet = g.V.Supports.sheet c.args.view.now in
    let none : None ≡ conflict_of reason c.args.entry = same_conflict sheet reason is c.args.entry c.requires.entry None c.in-None.ensures in
    let seen : view Null ≡ null = search (rules, the_lemmas) in
    seen ∙ ap (conflict_data sheet.universe) none

pub returns-in-Some : goal.returns-in-Some
returns-in-Some g c = λ reason is.
    let sheet = g.V.Supports.sheet c.args.view.now in
    let support = c.in-Some.support.now in
    let some : Some support ≡ conflict_of reason c.args.entry = same_conflict sheet reason is c.args.entry c.requires.entry (Some support) c.in-Some.ensures in
    IfOk-weaker c.entries_json.result _ _
    (λ built h. h ∙ ap (λ (s : Sheet). entries_data s.universe support) c.book.ensures ∙ ap (conflict_data sheet.universe) some)
    c.entries_json.ensures
