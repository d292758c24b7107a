use Rattle.std.proofs.Common.{ap, arith, get_or, length}
use Rattle.std.proofs.lemmas.List.{get_or_default}
use Rattle.pc_propagate.specs.Listed.{no_literal}
use Rattle.pc_propagate.proofs.watched.promise_all.Goals as goal

pub promise-requires : goal.promise-requires
promise-requires c =
    let l = get_or c.args.clause.now c.loop-lit.lit-index no_literal in
    omega (arith, c.requires.in_range l (c.loop-lit.lit-index, c.loop-lit-test.true, get_or_default c.args.clause.now c.loop-lit.lit-index l no_literal c.loop-lit-test.true), c.code_of.ensures.is, ap length c.loop-lit.invariant.same)
