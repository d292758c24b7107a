use Rattle.std.proofs.Common.{◌<◌, sym, subst, arith, Contains}
use Rattle.pc_components.specs.Pairs.{size_at}
use Rattle.pc_theory.proofs.ValuesRead.{size_is, var_is}
use Rattle.pc_theory.proofs.reading.first_true.Goals as goal

pub value-requires : goal.value-requires
value-requires c =
    let size = size_is c.args.ground.now.sizes _ c.args.cell c.values_of-number-end.result c.requires.sizes c.values_of-number-end.ensures.exact in
    let below : c.loop-number.number < size_at c.args.ground.now.sizes c.args.cell = omega (arith, size, c.loop-number-test.true) in
    subst (Contains c.args.solver.now.problem.own) (sym (var_is c.args.ground.now.sizes c.args.cell (record { 0 = c.loop-number.number }) c.pair.result c.pair.ensures))
    (c.requires.pairs (record { 0 = c.loop-number.number }) below)

pub returns-then-value-clause-some : goal.returns-then-value-clause-some
returns-then-value-clause-some c =
    let size = size_is c.args.ground.now.sizes _ c.args.cell c.values_of-number-end.result c.requires.sizes c.values_of-number-end.ensures.exact in
    omega (arith, size, c.loop-number-test.true)

pub returns-clause-none : goal.returns-clause-none
returns-clause-none c x below =
    let size = size_is c.args.ground.now.sizes _ c.args.cell c.values_of-number-end.result c.requires.sizes c.values_of-number-end.ensures.exact in
    c.loop-number.invariant x (omega (arith, size, below, c.loop-number-test.false))
