use Rattle.std.proofs.Common.{rules, ◌≡◌, ◌≤◌, ◌++◌, length, arith, length-append}
use Rattle.pc_lits.proofs.RowsLemmas.{AreEnds-push, rows_from-push}
use Rattle.pc_propagate.proofs.bodies.Bodies.push.Goals as goal

pub overflow_cast-end : goal.overflow_cast-end
overflow_cast-end c =
    let end : c.len-end.result ≡ length (c.self.inside.literals.items ++ c.args.clause.now) = search rules in
    omega (arith, end, length-append c.self.inside.literals.items c.args.clause.now, c.len.ensures, c.self.inside.literals.ok.0, c.if-more-gt-MOST.false, c.if-len-more.false)

pub invariant_of-self-2 : goal.invariant_of-self-2
invariant_of-self-2 c =
    let end : c.len-end.result ≡ length (c.self.inside.literals.items ++ c.args.clause.now) = search rules in
    let longer : length c.self.inside.literals.items ≤ length (c.self.inside.literals.items ++ c.args.clause.now) = omega (arith, length-append c.self.inside.literals.items c.args.clause.now) in
    rw (c.in_ok-extend_from_slice.ensures.items, c.in_ok-push.ensures.items, c.in_ok-reserve.ensures.items, end)
    (AreEnds-push _ _ 0 _ c.self.invariant longer)

pub returns-clause-ok : goal.returns-clause-ok
returns-clause-ok c =
    let end : c.len-end.result ≡ length (c.self.inside.literals.items ++ c.args.clause.now) = search rules in
    rw (c.in_ok-extend_from_slice.ensures.items, c.in_ok-push.ensures.items, c.in_ok-reserve.ensures.items, end, ← c.self.view_is)
    (rows_from-push _ c.args.clause.now 0 _ c.self.invariant)
