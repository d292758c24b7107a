use Rattle.std.proofs.Common.{◌≡◌, ◌+◌, ◌<◌, ◌≤◌, true, arith, rules}
use Rattle.pc_formula.specs.Tree.{side_of}
use Rattle.pc_sheet.specs.Views.{sum_of}
use Rattle.pc_sheet.specs.WellSorted.{reads_in_sum}
use Rattle.pc_elaborate.specs.Told.{variables_of, MayCompare}
use Rattle.pc_elaborate.proofs.AtomTold.{reads_fail, kinds_fail, comparison_told}
use Rattle.pc_elaborate.proofs.atoms.comparison.Goals as goal

pub returns-then-reads_in_side-gt-MOST_READS : goal.returns-then-reads_in_side-gt-MOST_READS
returns-then-reads_in_side-gt-MOST_READS c =
    let many : 16 < reads_in_sum (sum_of c.in_ok-left.left) + reads_in_sum (sum_of c.in_ok-right.right) = omega (arith, c.reads_in_side.ensures, c.reads_in_side-2.ensures, c.if-reads_in_side-gt-MOST_READS.true) in
    reads_fail c.args.book.now.universe (variables_of c.args.variables.now) (side_of c.args.left.now) (side_of c.args.right.now) c.args.op c.in_ok-left.left c.in_ok-left.kind c.in_ok-left.ensures c.in_ok-right.right c.in_ok-right.other c.in_ok-right.ensures many

pub returns-then-not-may_compare : goal.returns-then-not-may_compare
returns-then-not-may_compare c =
    let few : reads_in_sum (sum_of c.in_ok-left.left) + reads_in_sum (sum_of c.in_ok-right.right) ≤ 16 = omega (arith, c.reads_in_side.ensures, c.reads_in_side-2.ensures, c.if-reads_in_side-gt-MOST_READS.false) in
    let lacks : ¬ MayCompare c.in_ok-left.kind c.args.op c.in_ok-right.other = λ h. let e = c.may_compare.ensures.1 h in let f = c.if-not-may_compare.true in cc in
    kinds_fail c.args.book.now.universe (variables_of c.args.variables.now) (side_of c.args.left.now) (side_of c.args.right.now) c.args.op c.in_ok-left.left c.in_ok-left.kind c.in_ok-left.ensures c.in_ok-right.right c.in_ok-right.other c.in_ok-right.ensures few lacks

pub returns : goal.returns
returns c =
    let few : reads_in_sum (sum_of c.in_ok-left.left) + reads_in_sum (sum_of c.in_ok-right.right) ≤ 16 = omega (arith, c.reads_in_side.ensures, c.reads_in_side-2.ensures, c.if-reads_in_side-gt-MOST_READS.false) in
    let e : c.may_compare.result ≡ true = let f = c.if-not-may_compare.false in search rules in
    comparison_told c.args.book.now.universe (variables_of c.args.variables.now) (side_of c.args.left.now) (side_of c.args.right.now) c.args.op c.in_ok-left.left c.in_ok-left.kind c.in_ok-left.ensures c.in_ok-right.right c.in_ok-right.other c.in_ok-right.ensures few (c.may_compare.ensures.0 e)
