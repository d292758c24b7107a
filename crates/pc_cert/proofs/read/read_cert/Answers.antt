use Rattle.std.proofs.Common.{[], refl, arith}
use Rattle.std.proofs.lemmas.Result.{err_from_is_err_and}
use Rattle.pc_cert.proofs.Taken.{failed, taken_more}
use Rattle.pc_cert.proofs.read.read_cert.Goals as goal

pub lines-init : goal.lines-init
lines-init c = record { before = []; says = []; parted = refl; all = tt; gathered = c.empty_draft-draft.ensures; order = c.nothing_yet-order.ensures; at = refl; short = omega arith }

pub lines-preserved : goal.lines-preserved
lines-preserved c =
    taken_more _ _ _ _ _ _ c.lines.invariant c.in-Some.line.now c.in-Some.after.now c.take_line.new.order c.take_line.new.draft c.in-Some.ensures.first c.in-Some.ensures.shorter
    (c.in_ok-take_line.ensures c.lines.invariant.says c.lines.invariant.gathered c.lines.invariant.order c.lines.invariant.at)

pub returns-in_err-take_line : goal.returns-in_err-take_line
returns-in_err-take_line c =
    let p = err_from_is_err_and c.from_residual.result c.from_residual.ensures.1 in
    rw (p.1, p.2)
    (failed _ _ _ _ _ _ c.lines.invariant c.in-Some.line.now c.in-Some.after.now _ c.in-Some.ensures.first
    (c.in_err-take_line.ensures c.lines.invariant.says c.lines.invariant.gathered c.lines.invariant.order c.lines.invariant.at))

pub returns : goal.returns
returns c = c.finish.ensures c.args.book.now c.args.bytes.now _ c.lines.invariant c.in_default.ensures.first
