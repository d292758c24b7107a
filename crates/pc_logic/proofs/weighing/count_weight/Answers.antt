use Rattle.std.proofs.Common.{arith, ◌-◌}
use Rattle.pc_logic.proofs.WeightLemmas.{count_small}
use Rattle.pc_logic.proofs.weighing.count_weight.Goals as goal

pub returns-clause-small : goal.returns-clause-small
returns-clause-small c = count_small (c.args.values - 1) (c.args.threshold - 1) (omega arith) (omega arith)
