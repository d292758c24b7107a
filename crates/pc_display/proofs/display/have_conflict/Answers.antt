use Rattle.std.proofs.Common.{Bool, ◌||◌, get_or, is_some, sym, ◌∙◌, ap, ap₂}
use Rattle.std.proofs.lemmas.List.{take_all}
use Rattle.std.proofs.lemmas.List.Folds.{list_any_at, list_any_more}
use Rattle.pc_sheet.specs.declared.ids.Entry.{Entry}
use Rattle.pc_display.specs.Show.{conflict_of, have_conflict}
use Rattle.pc_display.proofs.LineLemmas.{no_entry}
use Rattle.pc_display.proofs.SheetLemmas.{clashes_is}
use Rattle.pc_display.proofs.display.have_conflict.Goals as goal

pub returns-then-is_some : goal.returns-then-is_some
returns-then-is_some g c = λ reason is.
    let sheet = g.V.Supports.sheet c.args.view.now in
    let es = c.args.entries.now in
    let i = c.loop-entry.entry-index in
    let clashes : Entry → Bool = λ e. is_some (conflict_of reason e) in
    let here = clashes_is sheet reason is (get_or es i no_entry) (c.requires i no_entry c.loop-entry-test.true) c.conflict_of.result c.conflict_of.ensures in
    sym (list_any_at clashes es i no_entry c.loop-entry-test.true (sym here ∙ (sym c.is_some.ensures ∙ c.if-is_some.true)))

pub loop-entry-preserved : goal.loop-entry-preserved
loop-entry-preserved g c = λ reason is.
    let sheet = g.V.Supports.sheet c.args.view.now in
    let es = c.args.entries.now in
    let i = c.loop-entry.entry-index in
    let clashes : Entry → Bool = λ e. is_some (conflict_of reason e) in
    let here = clashes_is sheet reason is (get_or es i no_entry) (c.requires i no_entry c.loop-entry-test.true) c.conflict_of.result c.conflict_of.ensures in
    list_any_more clashes es i no_entry c.loop-entry-test.true ∙ ap₂ (λ a b. a || b) (c.loop-entry.invariant reason is) (sym here ∙ (sym c.is_some.ensures ∙ c.if-is_some.false))

pub returns : goal.returns
returns g c = λ reason is. sym (c.loop-entry.invariant reason is) ∙ ap (have_conflict reason) (take_all c.loop-entry.entry-index c.args.entries.now c.loop-entry-test.false)
