use Rattle.std.proofs.Common.{◌≡◌, [], ◌∷◌, ◌++◌, length, map, sym, ◌∙◌, ap, subst, arith, rules}
use Rattle.std.proofs.lemmas.Result.{err_from_is_err_and}
use Rattle.std.proofs.lemmas.List.{map_push}
use Rattle.pc_formula.specs.Tree.{added_of}
use Rattle.pc_formula.specs.Front.{Reads}
use Rattle.pc_formula.specs.Side.{Adds}
use Rattle.pc_formula.proofs.Sides.{Sums, sums_end, sums_none, sums_next}
use Rattle.pc_formula.proofs.items.added_items.Goals as goal

pub returns-in_err-next-clause-err : goal.returns-in_err-next-clause-err
returns-in_err-next-clause-err c = λ refused.
    let p = err_from_is_err_and c.from_residual.result c.from_residual.ensures.1 in
    sums_none _ _ _ c.added.invariant.sums _ _ c.in-Some.ensures (c.in_err-next.ensures.err (cc))

pub added-preserved : goal.added-preserved
added-preserved c =
    let items : c.push.new.self.items ≡ c.added.found.items ++ (c.in-Some.sign, c.in_ok-next.next) ∷ [] = search rules in
    record {
      sums = subst (λ l. Sums c.args.words.now l c.item.new.words) (sym (ap (map added_of) items ∙ map_push added_of c.added.found.items (c.in-Some.sign, c.in_ok-next.next)))
          (sums_next _ _ _ c.added.invariant.sums c.in-Some.sign _ c.in-Some.ensures _ _ c.in_ok-next.ensures.ok);
      shorter = omega (arith, c.added.invariant.shorter, c.in_ok-next.ensures.shorter, ap length c.in-Some.ensures);
    }

pub returns-clause-ok : goal.returns-clause-ok
returns-clause-ok c =
    let kept = c.in_default.ensures in
    subst (λ ws. Reads Adds 2 c.args.words.now (map added_of c.added.found.items) ws) (sym kept.0) (sums_end _ _ _ c.added.invariant.sums kept.1)
