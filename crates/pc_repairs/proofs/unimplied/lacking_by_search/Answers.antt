use Rattle.std.proofs.Common.{[], subst}
use Rattle.pc_repairs.specs.inside.Asking.{AllSay}
use Rattle.pc_repairs.proofs.Lacked.{lacking_made, none_lacks}
use Rattle.pc_repairs.proofs.WholeSearch.{no_sets, nothing_done, unblocked}
use Rattle.pc_repairs.proofs.unimplied.lacking_by_search.Goals as goal

pub returns-in_err-search-clause-search : goal.returns-in_err-search-clause-search
returns-in_err-search-clause-search c = nothing_done c.args.task.book.now [] (no_sets c.args.task.book.now) _ c.args.tally.now c.args.log.now c.requires.new_log

pub returns-in_err-add_all-clause-search : goal.returns-in_err-add_all-clause-search
returns-in_err-add_all-clause-search c =
    unblocked c.args.task.book.now _ c.args.tally.now c.add_all.new.tally c.add_all.new.search.solver c.args.log.now c.add_all.new.log c.requires.new_log c.add_all.ensures.asked c.add_all.ensures.spends

pub returns-then-not-branch-clause-says : goal.returns-then-not-branch-clause-says
returns-then-not-branch-clause-says c =
    let none = subst (AllSay c.args.task.book.now c.args.sets.now c.args.target c.add_all.new.search.found) c.if-not-branch.true c.in_ok-add_all.ensures.says in
    none_lacks c.args.task.book.now c.args.sets.now c.requires.exact c.args.target none.0 none.1 none.2

pub returns-then-not-branch-clause-search : goal.returns-then-not-branch-clause-search
returns-then-not-branch-clause-search c =
    unblocked c.args.task.book.now _ c.args.tally.now c.add_all.new.tally c.add_all.new.search.solver c.args.log.now c.add_all.new.log c.requires.new_log c.add_all.ensures.asked c.add_all.ensures.spends

pub returns-clause-says : goal.returns-clause-says
returns-clause-says c =
    let all = subst (AllSay c.args.task.book.now c.args.sets.now c.args.target c.add_all.new.search.found) c.if-not-branch.false c.in_ok-add_all.ensures.says in
    lacking_made c.args.task.book.now c.args.sets.now c.requires.exact c.args.target c.implied_is_by_maximal_set.ensures c.well_formed-2.ensures c.add_all.new.search.found all.0 all.1

pub returns-clause-search : goal.returns-clause-search
returns-clause-search c =
    unblocked c.args.task.book.now _ c.args.tally.now c.add_all.new.tally c.add_all.new.search.solver c.args.log.now c.add_all.new.log c.requires.new_log c.add_all.ensures.asked c.add_all.ensures.spends
