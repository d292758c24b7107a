use Rattle.std.proofs.Common.{◌≡◌, [], ◌∷◌, ◌++◌, false, true, sym, subst, arith, rules}
use Rattle.std.proofs.lemmas.Result.{err_from_is_err_and}
use Rattle.pc_formula.specs.Front.{Reads}
use Rattle.pc_formula.specs.Value.{DerivesName, Listed}
use Rattle.pc_formula.proofs.Lists.{Lists, lists_stuck, lists_end, lists_next, ends_list, goes_on_list}
use Rattle.pc_formula.proofs.values.listed_names.Goals as goal

pub returns-in_err-goes_on-clause-err : goal.returns-in_err-goes_on-clause-err
returns-in_err-goes_on-clause-err c = λ refused.
    let p = err_from_is_err_and c.from_residual-in_err-goes_on.result c.from_residual-in_err-goes_on.ensures.1 in
    let stuck = c.in_err-goes_on.ensures.err (cc) in
    lists_stuck DerivesName 0 (omega arith) _ _ _ c.names.invariant _ _ c.in_ok-name.ensures.ok stuck.0 stuck.1

pub returns-then-not-branch-clause-ok : goal.returns-then-not-branch-clause-ok
returns-then-not-branch-clause-ok c =
    let stop : c.in_ok-goes_on.field-0 ≡ false = search rules in
    let items : c.push.new.self.items ≡ c.names.names.items ++ c.in_ok-name.name ∷ [] = search rules in
    subst (λ l. Reads (Listed DerivesName) 0 c.args.words.now l c.goes_on.new.words) (sym items)
    (lists_end DerivesName 0 (omega arith) _ _ _ c.names.invariant _ _ c.in_ok-name.ensures.ok _ (ends_list _ _ _ c.in_ok-goes_on.ensures.ok stop))

pub names-preserved : goal.names-preserved
names-preserved c =
    let more : c.in_ok-goes_on.field-0 ≡ true = search rules in
    let items : c.push.new.self.items ≡ c.names.names.items ++ c.in_ok-name.name ∷ [] = search rules in
    subst (λ l. Lists DerivesName c.args.words.now l c.goes_on.new.words) (sym items)
    (lists_next DerivesName 0 (omega arith) _ _ _ c.names.invariant _ _ c.in_ok-name.ensures.ok _ (goes_on_list _ _ _ c.in_ok-goes_on.ensures.ok more))
