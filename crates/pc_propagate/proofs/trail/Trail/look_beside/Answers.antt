use Rattle.std.proofs.lemmas.Bool.{OnTrue_at}
use Rattle.pc_propagate.proofs.WalkLemmas.{grows_alone}
use Rattle.pc_propagate.proofs.trail.Trail.look_beside.Goals as goal

pub look_at_all-requires-clause-last : goal.look_at_all-requires-clause-last
look_at_all-requires-clause-last c = OnTrue_at c.if-not-is_of_last_level.false c.is_of_last_level.ensures

pub returns-then-not-is_of_last_level-clause-grows : goal.returns-then-not-is_of_last_level-clause-grows
returns-then-not-is_of_last_level-clause-grows c = grows_alone c.args.self.now c.let_all_wait.new.self c.args.tally.now c.let_all_wait.ensures.alone
