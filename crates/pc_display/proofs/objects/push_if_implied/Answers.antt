use Rattle.std.proofs.Common.{◌≡◌, true, All, Some, None, ◌++◌, map, refl, sym, ◌∙◌, ap, ap₂, append-nil, subst}
use Rattle.serde_json.specs.View.{view}
use Rattle.pc_sheet.specs.Sheet.{Sheet}
use Rattle.pc_sheet.specs.WellFormed.{IsEntryOf}
use Rattle.pc_sheet.specs.declared.ids.Target.{Target}
use Rattle.pc_writer.specs.Spelling.{sort_of, value_text}
use Rattle.pc_display.specs.Json.{entries_data, implied_data, reasoned_data}
use Rattle.pc_display.proofs.ObjectLemmas.{implied_is, pushed}
use Rattle.pc_display.proofs.SheetLemmas.{is_target, same_reason, support_fits}
use Rattle.pc_display.proofs.objects.push_if_implied.Goals as goal

pub support-requires : goal.support-requires
support-requires g c = is_target (g.V.Supports.sheet c.args.view.now).universe c.args.cell c.requires.cell c.args.value true c.requires.value

pub entries_json-requires-clause-entries : goal.entries_json-requires-clause-entries
entries_json-requires-clause-entries g c =
    let P : Sheet → Type 0 = λ s. All (IsEntryOf s.universe) c.in-Some.support.now in
    let t : Target = record { cell = c.args.cell; value = c.args.value; holds = true } in
    subst P (sym c.book-book.ensures) (support_fits (g.V.Supports.sheet c.args.view.now) c.requires.formed t (Some c.in-Some.support.now) c.in-Some.support.now c.in-Some.ensures refl)

pub returns-in-None : goal.returns-in-None
returns-in-None g c = λ reason is.
    let sheet = g.V.Supports.sheet c.args.view.now in
    let u = sheet.universe in
    let t : Target = record { cell = c.args.cell; value = c.args.value; holds = true } in
    let none : None ≡ reason t = same_reason sheet t None (reason t) c.in-None.ensures (is t (is_target u c.args.cell c.requires.cell c.args.value true c.requires.value)) in
    sym (append-nil (map view c.args.list.now.items)) ∙ ap (λ o. map view c.args.list.now.items ++ implied_data u (sort_of u c.args.cell) c.args.value o) none

pub returns-in_ok-push-in-Some : goal.returns-in_ok-push-in-Some
returns-in_ok-push-in-Some g c = λ reason is.
    let sheet = g.V.Supports.sheet c.args.view.now in
    let book = c.book-book.result.now in
    let t : Target = record { cell = c.args.cell; value = c.args.value; holds = true } in
    let support = c.in-Some.support.now in
    let some : Some support ≡ reason t = same_reason sheet t (Some support) (reason t) c.in-Some.ensures (is t (is_target sheet.universe c.args.cell c.requires.cell c.args.value true c.requires.value)) in
    let built : view c.in_ok-reasoned_json-in-Some.field-0 ≡ reasoned_data (entries_data book.universe support) (value_text book.universe c.sort_of.result c.args.value) =
    c.in_ok-reasoned_json-in-Some.ensures ∙ ap₂ reasoned_data c.in_ok-because-in-Some.ensures c.in_ok-text-in-Some.ensures in
    pushed c.args.list.now.items c.push.new.self.items c.in_ok-reasoned_json-in-Some.field-0 _ _ c.in_ok-push-in-Some.ensures.items built
    (implied_is sheet book c.book-book.ensures c.args.cell c.args.value c.sort_of.result c.sort_of.ensures support (reason t) some)
