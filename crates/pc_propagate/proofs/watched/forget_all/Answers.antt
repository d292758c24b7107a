use Rattle.std.proofs.Common.{arith, subst, List}
use Rattle.std.proofs.lemmas.List.{take_all}
use Rattle.pc_lits.specs.declared.literal.Lit.{Lit}
use Rattle.pc_propagate.specs.Listed.{HaveGone, no_literal}
use Rattle.pc_propagate.proofs.GoneLemmas.{gone_none, gone_more, in_lists}
use Rattle.pc_propagate.proofs.watched.forget_all.Goals as goal

pub loop-lit-init : goal.loop-lit-init
loop-lit-init c = gone_none c.args.lists.now c.args.clause.now

pub forget-requires : goal.forget-requires
forget-requires c = in_lists c.args.lists.now c.loop-lit.lists c.args.clause.now c.loop-lit.lit-index c.code_of.result no_literal c.requires.in_range c.loop-lit.invariant c.loop-lit-test.true c.code_of.ensures.is

pub loop-lit-preserved : goal.loop-lit-preserved
loop-lit-preserved c = gone_more c.args.lists.now c.loop-lit.lists c.forget.new.self c.args.clause.now c.loop-lit.lit-index c.code_of.result no_literal c.loop-lit.invariant c.loop-lit-test.true c.code_of.ensures.is
    (in_lists c.args.lists.now c.loop-lit.lists c.args.clause.now c.loop-lit.lit-index c.code_of.result no_literal c.requires.in_range c.loop-lit.invariant c.loop-lit-test.true c.code_of.ensures.is) c.forget.ensures

pub returns : goal.returns
returns c = record { gone = subst (λ (ls : List Lit). HaveGone ls c.args.lists.now c.loop-lit.lists) (take_all c.loop-lit.lit-index c.args.clause.now (omega (arith, c.loop-lit-test.false))) c.loop-lit.invariant }
