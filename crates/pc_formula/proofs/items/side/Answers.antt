use Rattle.std.proofs.lemmas.Result.{err_from_is_err_and}
use Rattle.pc_formula.proofs.Sides.{side_reads, side_none_first, side_none_rest}
use Rattle.pc_formula.proofs.items.side.Goals as goal

pub returns-in_err-first-clause-err : goal.returns-in_err-first-clause-err
returns-in_err-first-clause-err c = λ refused.
    let p = err_from_is_err_and c.from_residual.result c.from_residual.ensures.1 in
    side_none_first _ (c.in_err-first.ensures.err (cc))

pub returns-in_err-rest-clause-err : goal.returns-in_err-rest-clause-err
returns-in_err-rest-clause-err c = λ refused.
    let p = err_from_is_err_and c.from_residual-in_err-rest.result c.from_residual-in_err-rest.ensures.1 in
    side_none_rest _ _ _ c.in_ok-first.ensures.ok (c.in_err-rest.ensures.err (cc))

pub returns-clause-ok : goal.returns-clause-ok
returns-clause-ok c = side_reads _ _ _ _ _ c.in_ok-first.ensures.ok c.in_ok-rest.ensures.ok
