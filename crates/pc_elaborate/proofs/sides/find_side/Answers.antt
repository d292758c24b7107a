use Rattle.std.proofs.Common.{not, map, subst, Ok, Err}
use Rattle.std.proofs.lemmas.Result.{err_from_is_err_and}
use Rattle.pc_formula.specs.Tree.{added_of, side_of}
use Rattle.pc_elaborate.specs.Told.{variables_of, AreAddedTold}
use Rattle.pc_elaborate.proofs.SideTold.{side_told, first_fails, rest_fails, several_is}
use Rattle.pc_elaborate.proofs.sides.find_side.Goals as goal

pub returns-in_err-first : goal.returns-in_err-first
returns-in_err-first c =
    let e = first_fails c.args.book.now.universe (variables_of c.args.variables.now) (side_of c.args.side.now) (not c.is_empty-several.result) (several_is c.args.side.now.rest c.is_empty-several.result c.is_empty-several.ensures)
    c.in_err-first.field-0.0 c.in_err-first.ensures in
    let p = err_from_is_err_and c.from_residual.result c.from_residual.ensures.1 in
    rw (p.1, p.2) e

pub returns-in_err-rest : goal.returns-in_err-rest
returns-in_err-rest c =
    let u = c.args.book.now.universe in
    let vs = variables_of c.args.variables.now in
    let rest = subst (λ xs. AreAddedTold u vs (map added_of xs) (Err c.in_err-rest.field-0.0)) c.deref.ensures.value c.in_err-rest.ensures in
    let e = rest_fails u vs (side_of c.args.side.now) (not c.is_empty-several.result) (several_is c.args.side.now.rest c.is_empty-several.result c.is_empty-several.ensures)
    c.in_ok-first.first c.in_ok-first.kind c.in_err-rest.field-0.0 c.in_ok-first.ensures rest in
    let p = err_from_is_err_and c.from_residual-in_err-rest.result c.from_residual-in_err-rest.ensures.1 in
    rw (p.1, p.2) e

pub returns : goal.returns
returns c =
    let u = c.args.book.now.universe in
    let vs = variables_of c.args.variables.now in
    let rest = subst (λ xs. AreAddedTold u vs (map added_of xs) (Ok c.in_ok-rest.rest)) c.deref.ensures.value c.in_ok-rest.ensures in
    side_told u vs (side_of c.args.side.now) (not c.is_empty-several.result) (several_is c.args.side.now.rest c.is_empty-several.result c.is_empty-several.ensures)
    c.in_ok-first.first c.in_ok-first.kind c.in_ok-rest.rest c.requires.sized c.in_ok-first.ensures rest
