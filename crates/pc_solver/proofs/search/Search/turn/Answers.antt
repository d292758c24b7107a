use Rattle.pc_solver.proofs.SearchLemmas.{Advances-grows}
use Rattle.pc_solver.proofs.TurnLemmas.{grown_under_way, spent_turn, then_turn, then_err}
use Rattle.pc_solver.proofs.search.Search.turn.Goals as goal

pub returns-in-Spent-clause-ok : goal.returns-in-Spent-clause-ok
returns-in-Spent-clause-ok c =
    spent_turn c.args.self.now c.propagate.new.self c.args.assumed.now c.args.tally.now c.propagate.new.tally c.args.log.now c.propagate.ensures.clauses c.propagate.ensures.grows c.requires.under_way c.in-Spent.ensures.step.0

pub meet_conflict-requires-clause-under_way : goal.meet_conflict-requires-clause-under_way
meet_conflict-requires-clause-under_way c = grown_under_way c.args.self.now c.propagate.new.self c.args.assumed.now c.args.tally.now c.propagate.new.tally c.args.log.now c.propagate.ensures.clauses c.propagate.ensures.grows c.requires.under_way

pub returns-in-Conflict-clause-ok : goal.returns-in-Conflict-clause-ok
returns-in-Conflict-clause-ok c =
    then_turn _ _ _ c.args.assumed.now _ _ _ _ _ _ c.meet_conflict.result (Advances-grows c.args.self.now c.propagate.new.self c.args.tally.now c.propagate.new.tally c.args.log.now c.requires.under_way.logged c.propagate.ensures.clauses c.propagate.ensures.grows) c.meet_conflict.ensures.ok

pub returns-in-Conflict-clause-err : goal.returns-in-Conflict-clause-err
returns-in-Conflict-clause-err c =
    then_err _ _ _ _ _ _ _ _ _ c.meet_conflict.result (Advances-grows c.args.self.now c.propagate.new.self c.args.tally.now c.propagate.new.tally c.args.log.now c.requires.under_way.logged c.propagate.ensures.clauses c.propagate.ensures.grows) c.meet_conflict.ensures.err

pub decide-requires-clause-under_way : goal.decide-requires-clause-under_way
decide-requires-clause-under_way c = grown_under_way c.args.self.now c.propagate.new.self c.args.assumed.now c.args.tally.now c.propagate.new.tally c.args.log.now c.propagate.ensures.clauses c.propagate.ensures.grows c.requires.under_way

pub returns-in-Quiet-clause-ok : goal.returns-in-Quiet-clause-ok
returns-in-Quiet-clause-ok c =
    then_turn _ _ _ c.args.assumed.now _ _ _ _ _ _ c.decide.result (Advances-grows c.args.self.now c.propagate.new.self c.args.tally.now c.propagate.new.tally c.args.log.now c.requires.under_way.logged c.propagate.ensures.clauses c.propagate.ensures.grows) c.decide.ensures.ok

pub returns-in-Quiet-clause-err : goal.returns-in-Quiet-clause-err
returns-in-Quiet-clause-err c =
    then_err _ _ _ _ _ _ _ _ _ c.decide.result (Advances-grows c.args.self.now c.propagate.new.self c.args.tally.now c.propagate.new.tally c.args.log.now c.requires.under_way.logged c.propagate.ensures.clauses c.propagate.ensures.grows) c.decide.ensures.err
