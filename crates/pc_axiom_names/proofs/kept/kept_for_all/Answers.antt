use Rattle.std.proofs.Common.{arith}
use Rattle.pc_axiom_names.proofs.Rising.{kept_found, kept_passed}
use Rattle.pc_axiom_names.proofs.kept.kept_for_all.Goals as goal

pub returns-then-own-gt0-clause-within : goal.returns-then-own-gt0-clause-within
returns-then-own-gt0-clause-within c =
    let own = c.kept_for-own in
    kept_found c.loop-left.count c.larger-count.result own.result.0 own.result.1 c.args.axioms.now c.loop-left.left _ c.loop-left-test.true c.loop-left.invariant.left c.larger-count.ensures.left c.larger-count.ensures.right own.ensures.paths
    own.ensures.rows c.if-own-gt0.true c.loop-left.invariant.behind c.requires.paths c.requires.rows

pub loop-left-preserved : goal.loop-left-preserved
loop-left-preserved c =
    let own = c.kept_for-own in
    let most = c.larger-count.ensures in
    let least = most.left in
    let paths = c.loop-left.invariant.paths in
    let left = c.loop-left.invariant.left in
    let none = c.if-own-gt0.false in
    record {
      paths = omega (arith, paths, least);
      left = omega (arith, left);
      behind = kept_passed c.loop-left.count c.larger-count.result own.result.0 own.result.1 c.args.axioms.now c.loop-left.left _ c.loop-left-test.true left least most.right (omega (arith, none)) own.ensures.paths own.ensures.rows c.loop-left.invariant.behind;
    }
