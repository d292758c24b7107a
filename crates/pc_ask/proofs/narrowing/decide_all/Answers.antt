use Rattle.std.proofs.Common.{◌≡◌, ◌-◌, ◌*◌, ◌^◌, length, arith, subst}
use Rattle.pc_solver.proofs.SpendingLemmas.{goes_further, goes_none, one_more_place, up_to_all, up_to_here}
use Rattle.pc_ask.specs.inside.Choices.{ways_of, IsNarrowedTo, tried_of}
use Rattle.pc_ask.proofs.Searched.{still_asked}
use Rattle.pc_ask.proofs.Spent.{few_left, goes_within, room_left, tried_few}
use Rattle.pc_ask.proofs.narrowing.decide_all.Goals as goal

pub loop-place-init : goal.loop-place-init
loop-place-init c = record {
  within = omega arith;
  goes_on = goes_none _ c.args.solver.now c.args.tally.now c.args.log.now c.requires.asked.has;
  narrowed = c.requires.narrowed;
}

pub decide-requires-clause-asked : goal.decide-requires-clause-asked
decide-requires-clause-asked c =
    still_asked c.args.choosing.task.book.now c.args.choosing.task.variables.now c.args.solver.now c.args.log.now c.requires.asked (tried_of c.args.choosing * (length c.args.choosing.entries.now - c.loop-place.place)) c.loop-place.solver c.args.tally.now c.loop-place.tally c.loop-place.log
    c.loop-place.invariant.goes_on

pub decide-requires-clause-counts : goal.decide-requires-clause-counts
decide-requires-clause-counts c =
    room_left (tried_of c.args.choosing * (length c.args.choosing.entries.now - c.loop-place.place)) (2 ^ 124) (2 ^ 125) c.args.solver.now c.loop-place.solver c.args.tally.now c.loop-place.tally c.args.log.now c.loop-place.log c.loop-place.invariant.goes_on c.recall_limit.ensures
    (few_left (tried_of c.args.choosing) (length c.args.choosing.entries.now) c.loop-place.place (tried_few (ways_of c.args.choosing)) c.requires.choosing.few) (omega arith) c.requires.counts

pub returns-in_err-decide-clause-goes_on : goal.returns-in_err-decide-clause-goes_on
returns-in_err-decide-clause-goes_on c =
    goes_further (tried_of c.args.choosing * (length c.args.choosing.entries.now - c.loop-place.place)) (tried_of c.args.choosing) _ c.args.solver.now c.loop-place.solver c.decide.new.solver c.args.tally.now c.loop-place.tally c.decide.new.tally c.args.log.now c.loop-place.log c.decide.new.log
    (up_to_here (tried_of c.args.choosing) (length c.args.choosing.entries.now) c.loop-place.place c.loop-place-test.true c.loop-place.invariant.within) c.loop-place.invariant.goes_on c.decide.ensures.goes_on

pub loop-place-preserved : goal.loop-place-preserved
loop-place-preserved c = record {
  within = omega (arith, c.loop-place.invariant.within);
  goes_on = goes_further (tried_of c.args.choosing * (length c.args.choosing.entries.now - c.loop-place.place)) (tried_of c.args.choosing) _ c.args.solver.now c.loop-place.solver c.decide.new.solver c.args.tally.now c.loop-place.tally c.decide.new.tally c.args.log.now c.loop-place.log c.decide.new.log
      (one_more_place (tried_of c.args.choosing) (length c.args.choosing.entries.now) c.loop-place.place c.loop-place-test.true c.loop-place.invariant.within) c.loop-place.invariant.goes_on c.decide.ensures.goes_on;
  narrowed = c.in_ok-decide.ensures.narrowed;
}

pub returns-clause-goes_on : goal.returns-clause-goes_on
returns-clause-goes_on c =
    goes_within (tried_of c.args.choosing * (length c.args.choosing.entries.now - c.loop-place.place)) _ c.args.solver.now c.loop-place.solver c.args.tally.now c.loop-place.tally c.args.log.now c.loop-place.log
    (up_to_all (tried_of c.args.choosing) (length c.args.choosing.entries.now) c.loop-place.place) c.loop-place.invariant.goes_on

pub returns-clause-narrowed : goal.returns-clause-narrowed
returns-clause-narrowed c =
    let ended : c.loop-place.place ≡ 0 = omega (arith, c.loop-place-test.false) in
    subst (λ n. IsNarrowedTo c.args.choosing n c.loop-place.log c.loop-place.narrowed) ended c.loop-place.invariant.narrowed
