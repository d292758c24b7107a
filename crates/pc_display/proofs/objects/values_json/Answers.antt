use Rattle.std.proofs.Common.{◌≡◌, ◌+◌, suc, List, ◌++◌, map, arith, rules, refl, sym, ◌∙◌, ap}
use Rattle.std.specs.List.{flat_map}
use Rattle.serde_json.specs.Data.{Data}
use Rattle.serde_json.specs.View.{view}
use Rattle.serde_json.specs.declared.value.Value.{Array, the_lemmas}
use Rattle.pc_sheet.specs.Cells.{values_below}
use Rattle.pc_sheet.specs.Sizes.{size_of}
use Rattle.pc_sheet.specs.declared.ids.ValueId.{ValueId}
use Rattle.pc_writer.specs.Spelling.{sort_of}
use Rattle.pc_display.specs.Show.{reason_of}
use Rattle.pc_display.specs.Json.{array_of, implied_data}
use Rattle.pc_display.proofs.Below.{one_more}
use Rattle.pc_display.proofs.SheetLemmas.{values_end}
use Rattle.pc_display.proofs.objects.values_json.Goals as goal

pub push_if_implied-requires-clause-value : goal.push_if_implied-requires-clause-value
push_if_implied-requires-clause-value g c =
    let sheet = g.V.Supports.sheet c.args.view.now in
    omega (arith, values_end sheet c.book.result.now c.args.cell c.values_of-value-end.result c.book.ensures c.requires.cell c.values_of-value-end.ensures.exact)

pub loop-value-preserved : goal.loop-value-preserved
loop-value-preserved g c = λ reason is.
    let u = (g.V.Supports.sheet c.args.view.now).universe in
    let list : ValueId → List Data = λ v. implied_data u (sort_of u c.args.cell) v (reason_of reason c.args.cell v) in
    let same : c.loop-value.value + 1 ≡ suc c.loop-value.value = omega arith in
    c.in_ok-push_if_implied.ensures reason is
    ∙ ap (λ ds. ds ++ list (record { 0 = c.loop-value.value })) (c.loop-value.invariant reason is)
    ∙ sym (ap (λ n. flat_map list (values_below n)) same ∙ one_more values_below (λ n. record { 0 = n }) (λ n. refl) list c.loop-value.value)

pub returns : goal.returns
returns g c = λ reason is.
    let sheet = g.V.Supports.sheet c.args.view.now in
    let u = sheet.universe in
    let list : ValueId → List Data = λ v. implied_data u (sort_of u c.args.cell) v (reason_of reason c.args.cell v) in
    let end = values_end sheet c.book.result.now c.args.cell c.values_of-value-end.result c.book.ensures c.requires.cell c.values_of-value-end.ensures.exact in
    let whole : c.loop-value.value ≡ size_of u (sort_of u c.args.cell) = omega (arith, end) in
    let seen : view (Array c.loop-value.list) ≡ array_of (map view c.loop-value.list.items) = search (rules, the_lemmas) in
    seen ∙ ap array_of (c.loop-value.invariant reason is ∙ ap (λ n. flat_map list (values_below n)) whole)
