use Rattle.std.proofs.Common.{◌+◌, ◌<◌, All, map, length, ap, sym, subst, arith}
use Rattle.std.proofs.lemmas.List.Elements.{All-nil}
use Rattle.pc_ground.specs.Variables.{variable_count}
use Rattle.pc_solver.proofs.SpendingLemmas.{spends_on}
use Rattle.pc_world_list.specs.Worlds.{set_at, set_of}
use Rattle.pc_repairs.specs.inside.Asking.{AddsLacking, IsLackingWorld}
use Rattle.pc_repairs.proofs.Lacked.{all_found, all_more, all_none}
use Rattle.pc_repairs.proofs.WholeSearch.{none_spent, still_few, within_more}
use Rattle.pc_repairs.proofs.unimplied.add_all.Goals as goal

pub loop-place-init : goal.loop-place-init
loop-place-init c = record {
  asked = c.requires.asked;
  shown = c.requires.shown;
  spends = none_spent c.args.task.book.now 0 c.args.tally.now c.args.log.now;
  found = ap (map set_of) c.requires.none;
  all = subst (All (IsLackingWorld c.args.task.book.now c.args.target)) (sym c.requires.none) (All-nil (IsLackingWorld c.args.task.book.now c.args.target));
}

pub add_lacking-requires-clause-asked : goal.add_lacking-requires-clause-asked
add_lacking-requires-clause-asked c = c.loop-place.invariant.asked

pub add_lacking-requires-clause-shown : goal.add_lacking-requires-clause-shown
add_lacking-requires-clause-shown c = c.loop-place.invariant.shown

pub add_lacking-requires-clause-counts : goal.add_lacking-requires-clause-counts
add_lacking-requires-clause-counts c =
    still_few (variable_count c.args.task.book.now) c.loop-place.place c.args.tally.now c.loop-place.tally c.args.log.now c.loop-place.log c.loop-place.invariant.spends c.recall_limit.ensures (omega (arith, c.loop-place-test.true)) c.requires.counts

pub returns-in_err-add_lacking-clause-spends : goal.returns-in_err-add_lacking-clause-spends
returns-in_err-add_lacking-clause-spends c =
    spends_on (variable_count c.args.task.book.now) c.loop-place.place 1 _ c.args.tally.now c.loop-place.tally c.add_lacking.new.tally c.args.log.now c.loop-place.log c.add_lacking.new.log (omega (arith, c.len-place-end.ensures, c.loop-place-test.true)) c.loop-place.invariant.spends c.add_lacking.ensures.spends

pub returns-then-not-branch-clause-spends : goal.returns-then-not-branch-clause-spends
returns-then-not-branch-clause-spends c =
    spends_on (variable_count c.args.task.book.now) c.loop-place.place 1 _ c.args.tally.now c.loop-place.tally c.add_lacking.new.tally c.args.log.now c.loop-place.log c.add_lacking.new.log (omega (arith, c.len-place-end.ensures, c.loop-place-test.true)) c.loop-place.invariant.spends c.add_lacking.ensures.spends

pub returns-then-not-branch-clause-says : goal.returns-then-not-branch-clause-says
returns-then-not-branch-clause-says c =
    all_none c.args.task.book.now c.args.sets.now c.requires.exact c.args.target c.loop-place.place (omega (arith, c.len-place-end.ensures, c.loop-place-test.true)) c.add_lacking.new.search.found
    (subst (AddsLacking c.args.task.book.now (set_at c.args.sets.now c.loop-place.place) c.args.target c.loop-place.search.found c.add_lacking.new.search.found) c.if-not-branch.true c.in_ok-add_lacking.ensures.adds)

pub loop-place-preserved : goal.loop-place-preserved
loop-place-preserved c =
    let low : c.loop-place.place < length c.args.sets.now = omega (arith, c.len-place-end.ensures, c.loop-place-test.true) in
    let more = all_more c.args.task.book.now c.args.sets.now c.requires.exact c.args.target c.loop-place.place low c.loop-place.search.found c.add_lacking.new.search.found c.loop-place.invariant.found c.loop-place.invariant.all
    (subst (AddsLacking c.args.task.book.now (set_at c.args.sets.now c.loop-place.place) c.args.target c.loop-place.search.found c.add_lacking.new.search.found) c.if-not-branch.false c.in_ok-add_lacking.ensures.adds) in
    record {
      asked = c.add_lacking.ensures.asked;
      shown = c.add_lacking.ensures.shown;
      spends = spends_on (variable_count c.args.task.book.now) c.loop-place.place 1 (c.loop-place.place + 1) c.args.tally.now c.loop-place.tally c.add_lacking.new.tally c.args.log.now c.loop-place.log c.add_lacking.new.log (omega arith) c.loop-place.invariant.spends c.add_lacking.ensures.spends;
      found = more.0;
      all = more.1;
    }

pub returns-clause-asked : goal.returns-clause-asked
returns-clause-asked c = c.loop-place.invariant.asked

pub returns-clause-spends : goal.returns-clause-spends
returns-clause-spends c =
    within_more c.args.task.book.now c.loop-place.place _ c.args.tally.now c.loop-place.tally c.args.log.now c.loop-place.log (omega (arith, c.len-place-end.ensures, c.loop-place-test.false)) c.loop-place.invariant.spends

pub returns-clause-says : goal.returns-clause-says
returns-clause-says c =
    all_found c.args.task.book.now c.args.sets.now c.args.target c.loop-place.search.found c.loop-place.place (omega (arith, c.len-place-end.ensures, c.loop-place-test.false)) c.loop-place.invariant.found c.loop-place.invariant.all
