use Rattle.pc_logic.proofs.UniformLemmas.{times_small}
use Rattle.pc_logic.proofs.weighing.add_times.Goals as goal

pub more-requires-clause-weight : goal.more-requires-clause-weight
more-requires-clause-weight c = times_small c.args.times c.args.weight c.requires.times c.requires.weight
