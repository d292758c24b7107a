use Rattle.std.proofs.Common.{◌≡◌, ◌+◌, [], ◌∷◌, ◌++◌, get_or, map, take, refl, sym, ◌∙◌, ap}
use Rattle.std.proofs.lemmas.List.{map-append, take_all, take_more}
use Rattle.serde_json.specs.Data.{Data}
use Rattle.pc_sheet.specs.declared.ids.Entry.{Entry}
use Rattle.pc_display.specs.Show.{conflict_of}
use Rattle.pc_display.specs.Json.{conflict_data, one_or_all}
use Rattle.pc_display.proofs.LineLemmas.{no_entry}
use Rattle.pc_display.proofs.ObjectLemmas.{pushed}
use Rattle.pc_display.proofs.objects.conflicts_json.Goals as goal

pub loop-entry-preserved : goal.loop-entry-preserved
loop-entry-preserved g c = λ reason is.
    let es = c.args.entries.now in
    let i = c.loop-entry.entry-index in
    let clash : Entry → Data = λ e. conflict_data (g.V.Supports.sheet c.args.view.now).universe (conflict_of reason e) in
    let more = clash (get_or es i no_entry) ∷ [] in
    let next : map clash (take (i + 1) es) ≡ map clash (take i es) ++ more = ap (map clash) (take_more es i no_entry c.loop-entry-test.true) ∙ map-append clash (take i es) (get_or es i no_entry ∷ []) in
    pushed c.loop-entry.list.items c.push.new.self.items c.in_ok-conflict_json.field-0 (clash (get_or es i no_entry)) more c.in_ok-push.ensures.items (c.in_ok-conflict_json.ensures reason is) refl
    ∙ ap (λ ds. ds ++ more) (c.loop-entry.invariant reason is)
    ∙ sym next

pub returns : goal.returns
returns g c = λ reason is.
    let clash : Entry → Data = λ e. conflict_data (g.V.Supports.sheet c.args.view.now).universe (conflict_of reason e) in
    c.one_or_all.ensures ∙ ap one_or_all (c.loop-entry.invariant reason is ∙ ap (map clash) (take_all c.loop-entry.entry-index c.args.entries.now c.loop-entry-test.false))
