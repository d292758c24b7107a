use Rattle.std.proofs.Common.{◌≡◌, subst, arith}
use Rattle.pc_propagate.specs.Refs.{clause_at}
use Rattle.pc_analyze.specs.Levels.{IsHighestLevel}
use Rattle.pc_solver.proofs.TurnLemmas.{refuted_turn, refuted_err, learned_turn, learned_err}
use Rattle.pc_solver.proofs.search.Search.meet_conflict.Goals as goal

pub learn-requires-clause-level : goal.learn-requires-clause-level
learn-requires-clause-level c = (c.level_of_conflict.result, c.level_of_conflict.ensures, c.if-level_of_conflict-gt0.true)

pub returns-then-level_of_conflict-gt0-clause-ok : goal.returns-then-level_of_conflict-gt0-clause-ok
returns-then-level_of_conflict-gt0-clause-ok c =
    learned_turn c.args.self.now c.learn.new.self c.go_on.new.self c.args.assumed.now c.args.tally.now c.learn.new.tally c.go_on.new.tally c.args.log.now c.learn.new.log c.go_on.new.log c.go_on.result c.in_ok-learnt.ensures.advances c.go_on.ensures.learned c.go_on.ensures.ok

pub returns-then-level_of_conflict-gt0-clause-err : goal.returns-then-level_of_conflict-gt0-clause-err
returns-then-level_of_conflict-gt0-clause-err c =
    learned_err c.args.self.now c.learn.new.self c.go_on.new.self c.args.tally.now c.learn.new.tally c.go_on.new.tally c.args.log.now c.learn.new.log c.go_on.new.log c.go_on.result c.in_ok-learnt.ensures.advances c.go_on.ensures.learned c.go_on.ensures.err

pub refute_conflict-requires-clause-level : goal.refute_conflict-requires-clause-level
refute_conflict-requires-clause-level c =
    let zero : c.level_of_conflict.result ≡ 0 = omega (arith, c.if-level_of_conflict-gt0.false) in
    subst (IsHighestLevel c.args.self.now.trail.entries (clause_at c.args.self.now.clauses.axioms c.args.self.now.clauses.more c.args.conflict)) zero c.level_of_conflict.ensures

pub returns-clause-ok : goal.returns-clause-ok
returns-clause-ok c =
    refuted_turn c.args.self.now c.refute_conflict.new.self c.args.assumed.now c.args.tally.now c.args.log.now c.refute_conflict.new.log c.refute_conflict.result c.requires.under_way c.refute_conflict.ensures.ok c.refute_conflict.ensures.refutes

pub returns-clause-err : goal.returns-clause-err
returns-clause-err c = refuted_err c.args.self.now c.refute_conflict.new.self c.args.tally.now c.args.log.now c.refute_conflict.new.log c.refute_conflict.result c.refute_conflict.ensures.err
