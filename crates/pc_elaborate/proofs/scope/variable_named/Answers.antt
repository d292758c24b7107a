use Rattle.std.proofs.Common.{◌≤◌, length, arith}
use Rattle.pc_elaborate.proofs.ScopeTold.{variable_at, not_bound_more, not_bound_at_all, same_name, other_name}
use Rattle.pc_elaborate.proofs.scope.variable_named.Goals as goal

pub returns-then-eq-clause-some : goal.returns-then-eq-clause-some
returns-then-eq-clause-some c = variable_at c.args.variables.now c.loop-k.k c.index-variables-k.result c.args.name.now c.index-variables-k.is c.loop-k-test.true (same_name c.eq.result c.index-variables-k.result.name.now c.args.name.now c.eq.ensures c.if-eq.true)

pub loop-k-preserved : goal.loop-k-preserved
loop-k-preserved c = not_bound_more c.args.variables.now c.loop-k.k c.index-variables-k.result c.args.name.now c.index-variables-k.is c.loop-k-test.true c.loop-k.invariant (other_name c.eq.result c.index-variables-k.result.name.now c.args.name.now c.eq.ensures c.if-eq.false)

pub returns-clause-none : goal.returns-clause-none
returns-clause-none c = let l : length c.args.variables.now ≤ c.loop-k.k = omega arith in not_bound_at_all c.args.variables.now c.loop-k.k c.args.name.now l c.loop-k.invariant
