use Rattle.std.proofs.Common.{arith}
use Rattle.pc_solver.specs.inside.Banning.{IsSetBy}
use Rattle.pc_solver.proofs.DecisionLemmas.{one_more, all_of_them}
use Rattle.pc_solver.proofs.decisions.first_open.Goals as goal

pub loop-variable-preserved : goal.loop-variable-preserved
loop-variable-preserved c = one_more (IsSetBy c.args.banned.now c.args.trail.now.entries) c.args.own.now c.loop-variable.variable-index _ c.loop-variable-test.true c.loop-variable.invariant c.if-leaves.ensures.set

pub returns-clause-none : goal.returns-clause-none
returns-clause-none c = all_of_them (IsSetBy c.args.banned.now c.args.trail.now.entries) c.args.own.now c.loop-variable.variable-index (omega (arith, c.loop-variable-test.false)) c.loop-variable.invariant
