use Rattle.std.proofs.Common.{◌≡◌, ◌≤◌, map, length, Ok, arith, rules, ap, ap₂, ◌∙◌, sym, subst}
use Rattle.std.proofs.lemmas.Int.{to_z-of_z}
use mir.Syntax.{w64}
use mir.Val.{SFits}
use Rattle.std.proofs.lemmas.Result.{err_from_is_err_and}
use denote.Param.Weighed.{at_most}
use Rattle.pc_formula.specs.Tree as tree
use Rattle.pc_formula.specs.Tree.{parts_of, formula_of}
use Rattle.pc_elaborate.specs.Told.{IsCountTold, variables_of}
use Rattle.pc_elaborate.proofs.FormulaViews.{formula_of-Not, formula_of-And, formula_of-Or, formula_of-Implies, formula_of-Iff, formula_of-ForAll, formula_of-Exists, formula_of-Count}
use Rattle.pc_elaborate.proofs.FormulaTold.{not_told, and_told, or_told, implies_told, iff_told, for_all_told, exists_told, count_told, for_all_fails, exists_fails, count_fails, scope_inside, body_fails, one_part_more, every_part, sized_at}
use Rattle.pc_elaborate.proofs.formula.+formula.Goals as goal

pub formula_among-returns-in_err-name-in-ForAll : goal.formula_among-returns-in_err-name-in-ForAll
formula_among-returns-in_err-name-in-ForAll t c =
    let is : formula_of c.args.formula.now ≡ tree.for_all c.in-ForAll.name c.in-ForAll.sort (formula_of c.deref-in-ForAll.result.now) =
    ap formula_of c.in-ForAll.is ∙ formula_of-ForAll c.in-ForAll.name c.in-ForAll.sort c.in-ForAll.body ∙ ap (λ f. tree.for_all c.in-ForAll.name c.in-ForAll.sort (formula_of f)) (sym c.deref-in-ForAll.ensures) in
    let e = for_all_fails c.args.book.now.universe (variables_of c.args.variables.now) (formula_of c.args.formula.now) c.in-ForAll.name c.in-ForAll.sort (formula_of c.deref-in-ForAll.result.now) is c.in_err-name-in-ForAll.field-0.0 c.in_err-name-in-ForAll.ensures in
    let p = err_from_is_err_and c.from_residual-in_err-name-in-ForAll.result c.from_residual-in_err-name-in-ForAll.ensures.1 in
    rw (p.1, p.2) e

pub formula_among-returns-in_ok-name-in-ForAll : goal.formula_among-returns-in_ok-name-in-ForAll
formula_among-returns-in_ok-name-in-ForAll t c =
    let is : formula_of c.args.formula.now ≡ tree.for_all c.in-ForAll.name c.in-ForAll.sort (formula_of c.deref-in-ForAll.result.now) =
    ap formula_of c.in-ForAll.is ∙ formula_of-ForAll c.in-ForAll.name c.in-ForAll.sort c.in-ForAll.body ∙ ap (λ f. tree.for_all c.in-ForAll.name c.in-ForAll.sort (formula_of f)) (sym c.deref-in-ForAll.ensures) in
    for_all_told c.args.book.now.universe (variables_of c.args.variables.now) (formula_of c.args.formula.now) c.in-ForAll.name c.in-ForAll.sort (formula_of c.deref-in-ForAll.result.now) is c.in_ok-name-in-ForAll.name c.in_ok-name-in-ForAll.sort c.in_ok-name-in-ForAll.body c.in_ok-name-in-ForAll.ensures

pub formula_among-returns-in_err-name-in-Exists : goal.formula_among-returns-in_err-name-in-Exists
formula_among-returns-in_err-name-in-Exists t c =
    let is : formula_of c.args.formula.now ≡ tree.exists c.in-Exists.name c.in-Exists.sort (formula_of c.deref-in-Exists.result.now) =
    ap formula_of c.in-Exists.is ∙ formula_of-Exists c.in-Exists.name c.in-Exists.sort c.in-Exists.body ∙ ap (λ f. tree.exists c.in-Exists.name c.in-Exists.sort (formula_of f)) (sym c.deref-in-Exists.ensures) in
    let e = exists_fails c.args.book.now.universe (variables_of c.args.variables.now) (formula_of c.args.formula.now) c.in-Exists.name c.in-Exists.sort (formula_of c.deref-in-Exists.result.now) is c.in_err-name-in-Exists.field-0.0 c.in_err-name-in-Exists.ensures in
    let p = err_from_is_err_and c.from_residual-in_err-name-in-Exists.result c.from_residual-in_err-name-in-Exists.ensures.1 in
    rw (p.1, p.2) e

pub formula_among-returns-in_ok-name-in-Exists : goal.formula_among-returns-in_ok-name-in-Exists
formula_among-returns-in_ok-name-in-Exists t c =
    let is : formula_of c.args.formula.now ≡ tree.exists c.in-Exists.name c.in-Exists.sort (formula_of c.deref-in-Exists.result.now) =
    ap formula_of c.in-Exists.is ∙ formula_of-Exists c.in-Exists.name c.in-Exists.sort c.in-Exists.body ∙ ap (λ f. tree.exists c.in-Exists.name c.in-Exists.sort (formula_of f)) (sym c.deref-in-Exists.ensures) in
    exists_told c.args.book.now.universe (variables_of c.args.variables.now) (formula_of c.args.formula.now) c.in-Exists.name c.in-Exists.sort (formula_of c.deref-in-Exists.result.now) is c.in_ok-name-in-Exists.name c.in_ok-name-in-Exists.sort c.in_ok-name-in-Exists.body c.in_ok-name-in-Exists.ensures

pub formula_among-returns-in_err-name-in-Count : goal.formula_among-returns-in_err-name-in-Count
formula_among-returns-in_err-name-in-Count t c =
    let is : formula_of c.args.formula.now ≡ tree.counting c.in-Count.at_most c.in-Count.bound c.in-Count.name c.in-Count.sort (formula_of c.deref-in-Count.result.now) =
    ap formula_of c.in-Count.is ∙ formula_of-Count c.in-Count.at_most c.in-Count.bound c.in-Count.name c.in-Count.sort c.in-Count.body ∙ ap (λ f. tree.counting c.in-Count.at_most c.in-Count.bound c.in-Count.name c.in-Count.sort (formula_of f)) (sym c.deref-in-Count.ensures) in
    let fits : SFits w64 c.in-Count.bound = search rules in
    let bound = subst (λ z. IsCountTold c.in-Count.at_most z (Ok c.in_ok-bound-in-Count.bound)) (to_z-of_z w64 c.in-Count.bound fits) c.in_ok-bound-in-Count.ensures in
    let e = count_fails c.args.book.now.universe (variables_of c.args.variables.now) (formula_of c.args.formula.now) c.in-Count.name c.in-Count.sort (formula_of c.deref-in-Count.result.now) c.in-Count.at_most c.in-Count.bound is c.in_ok-bound-in-Count.bound bound c.in_err-name-in-Count.field-0.0 c.in_err-name-in-Count.ensures in
    let p = err_from_is_err_and c.from_residual-in_err-name-in-Count.result c.from_residual-in_err-name-in-Count.ensures.1 in
    rw (p.1, p.2) e

pub formula_among-returns-in_ok-name-in-Count : goal.formula_among-returns-in_ok-name-in-Count
formula_among-returns-in_ok-name-in-Count t c =
    let is : formula_of c.args.formula.now ≡ tree.counting c.in-Count.at_most c.in-Count.bound c.in-Count.name c.in-Count.sort (formula_of c.deref-in-Count.result.now) =
    ap formula_of c.in-Count.is ∙ formula_of-Count c.in-Count.at_most c.in-Count.bound c.in-Count.name c.in-Count.sort c.in-Count.body ∙ ap (λ f. tree.counting c.in-Count.at_most c.in-Count.bound c.in-Count.name c.in-Count.sort (formula_of f)) (sym c.deref-in-Count.ensures) in
    let fits : SFits w64 c.in-Count.bound = search rules in
    let bound = subst (λ z. IsCountTold c.in-Count.at_most z (Ok c.in_ok-bound-in-Count.bound)) (to_z-of_z w64 c.in-Count.bound fits) c.in_ok-bound-in-Count.ensures in
    count_told c.args.book.now.universe (variables_of c.args.variables.now) (formula_of c.args.formula.now) c.in-Count.name c.in-Count.sort (formula_of c.deref-in-Count.result.now) c.in-Count.at_most c.in-Count.bound is c.in_ok-bound-in-Count.bound bound c.in_ok-name-in-Count.name c.in_ok-name-in-Count.sort c.in_ok-name-in-Count.body c.in_ok-name-in-Count.ensures

pub formula_among-returns-in_ok-part-in-Not : goal.formula_among-returns-in_ok-part-in-Not
formula_among-returns-in_ok-part-in-Not t c =
    let is : formula_of c.args.formula.now ≡ tree.not (formula_of c.deref-in-Not.result.now) = ap formula_of c.in-Not.is ∙ formula_of-Not c.in-Not.part ∙ ap (λ f. tree.not (formula_of f)) (sym c.deref-in-Not.ensures) in
    not_told c.args.book.now.universe (variables_of c.args.variables.now) (formula_of c.args.formula.now) (formula_of c.deref-in-Not.result.now) is c.in_ok-part-in-Not.part c.in_ok-part-in-Not.ensures

pub formula_among-returns-in_ok-parts-in-And : goal.formula_among-returns-in_ok-parts-in-And
formula_among-returns-in_ok-parts-in-And t c =
    let is : formula_of c.args.formula.now ≡ tree.and (parts_of (map formula_of c.deref-in-And.result.now)) =
    ap formula_of c.in-And.is ∙ formula_of-And c.in-And.parts ∙ ap (λ fs. tree.and (parts_of (map formula_of fs))) (sym c.deref-in-And.ensures.value) in
    and_told c.args.book.now.universe (variables_of c.args.variables.now) (formula_of c.args.formula.now) (parts_of (map formula_of c.deref-in-And.result.now)) is c.requires.sized c.in_ok-parts-in-And.parts c.in_ok-parts-in-And.ensures

pub formula_among-returns-in_ok-parts-in-Or : goal.formula_among-returns-in_ok-parts-in-Or
formula_among-returns-in_ok-parts-in-Or t c =
    let is : formula_of c.args.formula.now ≡ tree.or (parts_of (map formula_of c.deref-in-Or.result.now)) =
    ap formula_of c.in-Or.is ∙ formula_of-Or c.in-Or.parts ∙ ap (λ fs. tree.or (parts_of (map formula_of fs))) (sym c.deref-in-Or.ensures.value) in
    or_told c.args.book.now.universe (variables_of c.args.variables.now) (formula_of c.args.formula.now) (parts_of (map formula_of c.deref-in-Or.result.now)) is c.requires.sized c.in_ok-parts-in-Or.parts c.in_ok-parts-in-Or.ensures

pub formula_among-returns-in_ok-right-in-Implies : goal.formula_among-returns-in_ok-right-in-Implies
formula_among-returns-in_ok-right-in-Implies t c =
    let is : formula_of c.args.formula.now ≡ tree.implies (formula_of c.deref-in-Implies.result.now) (formula_of c.deref-in-Implies-2.result.now) =
    ap formula_of c.in-Implies.is ∙ formula_of-Implies c.in-Implies.left c.in-Implies.right ∙ ap₂ (λ f g. tree.implies (formula_of f) (formula_of g)) (sym c.deref-in-Implies.ensures) (sym c.deref-in-Implies-2.ensures) in
    implies_told c.args.book.now.universe (variables_of c.args.variables.now) (formula_of c.args.formula.now) (formula_of c.deref-in-Implies.result.now) (formula_of c.deref-in-Implies-2.result.now) is c.in_ok-left-in-Implies.left c.in_ok-right-in-Implies.right c.in_ok-left-in-Implies.ensures c.in_ok-right-in-Implies.ensures

pub formula_among-returns-in_ok-right-in-Iff : goal.formula_among-returns-in_ok-right-in-Iff
formula_among-returns-in_ok-right-in-Iff t c =
    let is : formula_of c.args.formula.now ≡ tree.iff (formula_of c.deref-in-Iff.result.now) (formula_of c.deref-in-Iff-2.result.now) =
    ap formula_of c.in-Iff.is ∙ formula_of-Iff c.in-Iff.left c.in-Iff.right ∙ ap₂ (λ f g. tree.iff (formula_of f) (formula_of g)) (sym c.deref-in-Iff.ensures) (sym c.deref-in-Iff-2.ensures) in
    iff_told c.args.book.now.universe (variables_of c.args.variables.now) (formula_of c.args.formula.now) (formula_of c.deref-in-Iff.result.now) (formula_of c.deref-in-Iff-2.result.now) is c.in_ok-left-in-Iff.left c.in_ok-right-in-Iff.right c.in_ok-left-in-Iff.ensures c.in_ok-right-in-Iff.ensures

pub formulas-formula_among-requires : goal.formulas-formula_among-requires
formulas-formula_among-requires t c =
    let sized = sized_at c.args.parts.now c.loop-part.part-index c.part-item.result c.requires.sized c.loop-part-test.true c.part-item.is in
    (search (rules, at_most), (c.requires.scope, sized))

pub formulas-loop-part-preserved : goal.formulas-loop-part-preserved
formulas-loop-part-preserved t c =
    one_part_more c.args.book.now.universe (variables_of c.args.variables.now) c.args.parts.now c.loop-part.part-index c.part-item.result c.loop-part-test.true c.part-item.is c.loop-part.found.items c.push.new.self.items c.in_ok-formula_among.field-0 c.loop-part.invariant c.in_ok-push.ensures.items c.in_ok-formula_among.ensures

pub formulas-returns : goal.formulas-returns
formulas-returns t c =
    let l : length c.args.parts.now ≤ c.loop-part.part-index = omega arith in
    every_part c.args.book.now.universe (variables_of c.args.variables.now) c.args.parts.now c.loop-part.part-index c.loop-part.found l c.loop-part.invariant

pub quantified-boxed-requires : goal.quantified-boxed-requires
quantified-boxed-requires t c =
    let is = ap variables_of c.deref.ensures.value ∙ c.in_ok-inner.ensures in
    let scope = scope_inside c.args.book.now.universe (variables_of c.args.variables.now) c.args.name.now c.args.sort.now (formula_of c.args.body.now) c.in_ok-sort.sort c.in_ok-sort.ensures c.requires.scope (variables_of c.deref.result.now) is in
    (search (rules, at_most), (scope, c.requires.sized))

pub quantified-returns-in_err-body : goal.quantified-returns-in_err-body
quantified-returns-in_err-body t c =
    let is = ap variables_of c.deref.ensures.value ∙ c.in_ok-inner.ensures in
    let e = body_fails c.args.book.now.universe (variables_of c.args.variables.now) c.args.name.now c.args.sort.now (formula_of c.args.body.now) c.in_ok-sort.sort c.in_ok-sort.ensures (variables_of c.deref.result.now) is c.in_err-body.field-0.0 c.in_err-body.ensures in
    let p = err_from_is_err_and c.from_residual-in_err-body.result c.from_residual-in_err-body.ensures.1 in
    rw (p.1, p.2) e
