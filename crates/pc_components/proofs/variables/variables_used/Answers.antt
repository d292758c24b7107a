use Rattle.std.proofs.Common.{◌≡◌, ◌∷◌, [], ap, ◌∙◌}
use Rattle.std.proofs.lemmas.Result.{IfOk-weaker}
use Rattle.pc_components.specs.inside.ClauseVariables.{variables_in}
use Rattle.pc_components.specs.inside.Marks.{all_marked, places_marked}
use Rattle.pc_components.specs.inside.Turned.{places_from, turned}
use Rattle.pc_components.proofs.MarksRight.{list_marked, rows_marked}
use Rattle.pc_components.proofs.variables.variables_used.Goals as goal

pub returns : goal.returns
returns c =
    let named = variables_in c.args.store.now c.args.axioms.now in
    let count = c.args.count in
    let marks =
    c.deref-2.ensures.value ∙ c.mark_all.ensures ∙ ap (λ xs. all_marked xs c.in_ok-marks.marks.items) (c.deref.ensures.value ∙ c.in_ok-named.ensures) ∙ ap (all_marked named) c.in_ok-marks.ensures ∙ list_marked count named in
    IfOk-weaker c.marked_places.result (λ places. places.items ≡ places_marked 0 c.deref-2.result.now) (λ used. used.items ≡ places_from 0 (turned count (named ∷ [])) 0)
    (λ places so. so ∙ ap (places_marked 0) marks ∙ rows_marked 0 0 (turned count (named ∷ [])))
    c.marked_places.ensures
