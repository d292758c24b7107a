use Rattle.pc_repairs.proofs.Asked.{goal_literal}
use Rattle.pc_repairs.proofs.asking.goal_of.Goals as goal

pub returns : goal.returns
returns c = goal_literal c.args.ground.now.sizes c.args.target c.pair.result c.negative.result c.requires.holds c.pair.ensures c.negative.ensures
