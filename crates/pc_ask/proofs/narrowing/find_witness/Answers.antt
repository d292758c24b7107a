use Rattle.std.proofs.Common.{◌^◌, arith, subst}
use Rattle.pc_solver.proofs.SpendingLemmas.{goes_further, goes_none}
use Rattle.pc_ask.specs.inside.Choices.{ways_of, OneSays, tried_of}
use Rattle.pc_ask.proofs.Searched.{still_asked}
use Rattle.pc_ask.proofs.Spent.{goes_within, room_left, tried_few}
use Rattle.pc_ask.proofs.Numbered.{tried_ways}
use Rattle.pc_ask.proofs.Witnesses.{none_more, none_of_all}
use Rattle.pc_ask.proofs.narrowing.find_witness.Goals as goal

pub loop-way-init : goal.loop-way-init
loop-way-init c = record {
  within = omega arith;
  goes_on = goes_none 0 c.args.solver.now c.args.tally.now c.args.log.now c.requires.asked.has;
  none = λ i a below at. absurd (omega (arith, below));
}

pub way_at-requires-clause-sized : goal.way_at-requires-clause-sized
way_at-requires-clause-sized c = c.requires.choosing.sized

pub way_at-requires-clause-number : goal.way_at-requires-clause-number
way_at-requires-clause-number c = omega (arith, c.loop-way-test.true, c.count_ways-ways.ensures)

pub returns-in_err-values-clause-goes_on : goal.returns-in_err-values-clause-goes_on
returns-in_err-values-clause-goes_on c =
    goes_within c.loop-way.way (tried_of c.args.choosing) c.args.solver.now c.loop-way.solver c.args.tally.now c.loop-way.tally c.args.log.now c.loop-way.log c.loop-way.invariant.within c.loop-way.invariant.goes_on

pub refute_way-requires-clause-asked : goal.refute_way-requires-clause-asked
refute_way-requires-clause-asked c =
    still_asked c.args.choosing.task.book.now c.args.choosing.task.variables.now c.args.solver.now c.args.log.now c.requires.asked c.loop-way.way c.loop-way.solver c.args.tally.now c.loop-way.tally c.loop-way.log c.loop-way.invariant.goes_on

pub refute_way-requires-clause-counts : goal.refute_way-requires-clause-counts
refute_way-requires-clause-counts c =
    room_left c.loop-way.way (2 ^ 125) (2 ^ 126) c.args.solver.now c.loop-way.solver c.args.tally.now c.loop-way.tally c.args.log.now c.loop-way.log c.loop-way.invariant.goes_on c.recall_limit.ensures
    (omega (arith, c.loop-way.invariant.within, tried_few (ways_of c.args.choosing))) (omega arith) c.requires.counts

pub returns-in_err-line-clause-goes_on : goal.returns-in_err-line-clause-goes_on
returns-in_err-line-clause-goes_on c =
    goes_further c.loop-way.way 1 _ c.args.solver.now c.loop-way.solver c.refute_way.new.solver c.args.tally.now c.loop-way.tally c.refute_way.new.tally c.args.log.now c.loop-way.log c.refute_way.new.log
    (omega (arith, c.loop-way-test.true, c.count_ways-ways.ensures, tried_ways c.args.choosing)) c.loop-way.invariant.goes_on c.refute_way.ensures.goes_on

pub returns-in-Some-clause-goes_on : goal.returns-in-Some-clause-goes_on
returns-in-Some-clause-goes_on c =
    goes_further c.loop-way.way 1 _ c.args.solver.now c.loop-way.solver c.refute_way.new.solver c.args.tally.now c.loop-way.tally c.refute_way.new.tally c.args.log.now c.loop-way.log c.refute_way.new.log
    (omega (arith, c.loop-way-test.true, c.count_ways-ways.ensures, tried_ways c.args.choosing)) c.loop-way.invariant.goes_on c.refute_way.ensures.goes_on

pub returns-in-Some-clause-says : goal.returns-in-Some-clause-says
returns-in-Some-clause-says c =
    let told = subst (OneSays c.args.choosing c.args.count c.args.kept.now c.in_ok-values.values c.refute_way.new.log) c.in-Some.is c.in_ok-line.ensures.says in
    record { shown = c.in_ok-values.values; at = c.in_ok-values.ensures; is = told.0; denied = told.1 }

pub loop-way-preserved : goal.loop-way-preserved
loop-way-preserved c = record {
  within = omega (arith, c.loop-way-test.true, c.count_ways-ways.ensures, tried_ways c.args.choosing);
  goes_on = goes_further c.loop-way.way 1 _ c.args.solver.now c.loop-way.solver c.refute_way.new.solver c.args.tally.now c.loop-way.tally c.refute_way.new.tally c.args.log.now c.loop-way.log c.refute_way.new.log
      (omega arith) c.loop-way.invariant.goes_on c.refute_way.ensures.goes_on;
  none = none_more c.args.choosing.task.book.now c.args.choosing.entries.now (ways_of c.args.choosing) c.args.count c.args.kept.now c.loop-way.way c.in_ok-values.values c.in_ok-values.ensures
      (subst (OneSays c.args.choosing c.args.count c.args.kept.now c.in_ok-values.values c.refute_way.new.log) c.in-None.is c.in_ok-line.ensures.says) c.loop-way.invariant.none;
}

-- ---- in the end

pub returns-in_err-all_tried-clause-goes_on : goal.returns-in_err-all_tried-clause-goes_on
returns-in_err-all_tried-clause-goes_on c =
    goes_within c.loop-way.way (tried_of c.args.choosing) c.args.solver.now c.loop-way.solver c.args.tally.now c.loop-way.tally c.args.log.now c.loop-way.log c.loop-way.invariant.within c.loop-way.invariant.goes_on

pub returns-clause-goes_on : goal.returns-clause-goes_on
returns-clause-goes_on c =
    goes_within c.loop-way.way (tried_of c.args.choosing) c.args.solver.now c.loop-way.solver c.args.tally.now c.loop-way.tally c.args.log.now c.loop-way.log c.loop-way.invariant.within c.loop-way.invariant.goes_on

pub returns-clause-says : goal.returns-clause-says
returns-clause-says c =
    none_of_all c.args.choosing.task.book.now c.args.choosing.entries.now (ways_of c.args.choosing) c.args.count c.args.kept.now c.loop-way.way
    (omega (arith, c.loop-way-test.false, c.count_ways-ways.ensures, tried_ways c.args.choosing, c.in_ok-all_tried.ensures.ok)) c.loop-way.invariant.none
