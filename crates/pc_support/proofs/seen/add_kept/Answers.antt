use Rattle.std.proofs.Common.{◌≡◌, List, Some, All, IfSome, slice_get, subst, sym}
use Rattle.pc_lits.specs.declared.literal.Var.{Var}
use Rattle.pc_lits.specs.declared.literal.Lit.{Lit}
use Rattle.pc_support.specs.Seen.{IsSeen}
use Rattle.pc_support.specs.declared.seen.Row.{Row}
use Rattle.pc_support.specs.inside.Counters.{ArePlacesIn, IsModelIn}
use Rattle.pc_support.proofs.SeenLemmas.{on_ok}
use Rattle.pc_support.proofs.KeptLemmas.{all_rows}
use Rattle.pc_support.proofs.seen.add_kept.Goals as goal

pub returns-clause-adds : goal.returns-clause-adds
returns-clause-adds c =
    let kept = c.turn_to.new.kept in
    let literals : kept.literals.items ≡ c.args.question.now.literals.now = c.in_ok-turn_to.ensures.literals in
    let right : ArePlacesIn c.args.question.now.literals.now c.args.watched.now kept.places.items = subst (λ (ls : List Lit). ArePlacesIn ls c.args.watched.now kept.places.items) literals c.in_ok-turn_to.ensures.kept.places in
    let goal_right : IfSome c.place_in-goal.result (λ p. slice_get c.args.watched.now p ≡ Some c.args.question.now.goal.variable) =
    subst (λ (x : Var). IfSome c.place_in-goal.result (λ p. slice_get c.args.watched.now p ≡ Some x)) c.var.ensures c.place_in-goal.ensures in
    on_ok c.add_rows.result
    (λ f clauses all. f clauses c.args.watched.now kept.places.items right goal_right
    (subst (λ (rs : List Row). All (λ (r : Row). IsModelIn kept.places.items r.truth r.model) rs) (sym c.deref.ensures.value) c.in_ok-turn_to.ensures.kept.models)
    (subst (λ (rs : List Row). All (λ (r : Row). IsSeen clauses c.args.watched.now r.truth) rs) (sym c.deref.ensures.value) (all_rows (IsSeen clauses c.args.watched.now) kept.rows.items all)))
    c.add_rows.ensures
