use Rattle.std.proofs.Common.{◌≡◌, [], ◌∷◌, ◌++◌, false, true, map, sym, ◌∙◌, ap, subst, arith, rules}
use Rattle.std.proofs.lemmas.Result.{err_from_is_err_and}
use Rattle.std.proofs.lemmas.List.{map_push}
use Rattle.pc_formula.specs.Tree.{value_of}
use Rattle.pc_formula.specs.Front.{Reads}
use Rattle.pc_formula.specs.Value.{DerivesValue, Listed}
use Rattle.pc_formula.proofs.Lists.{Lists, lists_stuck, lists_end, lists_next, ends_list, goes_on_list}
use Rattle.pc_formula.proofs.values.listed_values.Goals as goal

pub returns-in_err-goes_on-clause-err : goal.returns-in_err-goes_on-clause-err
returns-in_err-goes_on-clause-err c = λ refused.
    let p = err_from_is_err_and c.from_residual-in_err-goes_on.result c.from_residual-in_err-goes_on.ensures.1 in
    let stuck = c.in_err-goes_on.ensures.err (cc) in
    lists_stuck DerivesValue 0 (omega arith) _ _ _ c.values.invariant _ _ c.in_ok-value.ensures.ok stuck.0 stuck.1

pub returns-then-not-branch-clause-ok : goal.returns-then-not-branch-clause-ok
returns-then-not-branch-clause-ok c =
    let stop : c.in_ok-goes_on.field-0 ≡ false = search rules in
    let items : c.push.new.self.items ≡ c.values.values.items ++ c.in_ok-value.value ∷ [] = search rules in
    subst (λ l. Reads (Listed DerivesValue) 0 c.args.words.now l c.goes_on.new.words) (sym (ap (map value_of) items ∙ map_push value_of c.values.values.items c.in_ok-value.value))
    (lists_end DerivesValue 0 (omega arith) _ _ _ c.values.invariant _ _ c.in_ok-value.ensures.ok _ (ends_list _ _ _ c.in_ok-goes_on.ensures.ok stop))

pub values-preserved : goal.values-preserved
values-preserved c =
    let more : c.in_ok-goes_on.field-0 ≡ true = search rules in
    let items : c.push.new.self.items ≡ c.values.values.items ++ c.in_ok-value.value ∷ [] = search rules in
    subst (λ l. Lists DerivesValue c.args.words.now l c.goes_on.new.words) (sym (ap (map value_of) items ∙ map_push value_of c.values.values.items c.in_ok-value.value))
    (lists_next DerivesValue 0 (omega arith) _ _ _ c.values.invariant _ _ c.in_ok-value.ensures.ok _ (goes_on_list _ _ _ c.in_ok-goes_on.ensures.ok more))
