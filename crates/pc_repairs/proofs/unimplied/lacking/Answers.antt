use Rattle.std.proofs.Common.{[], refl, sym, subst}
use Rattle.pc_repairs.specs.Lacking.{AreLacking}
use Rattle.pc_repairs.proofs.Lacked.{lacking_made, own_lack}
use Rattle.pc_repairs.proofs.WholeSearch.{no_sets, nothing_done}
use Rattle.pc_repairs.proofs.unimplied.lacking.Goals as goal

pub returns-in_err-copy-clause-search : goal.returns-in_err-copy-clause-search
returns-in_err-copy-clause-search c = nothing_done c.args.book.now [] (no_sets c.args.book.now) _ c.args.tally.now c.args.log.now c.requires.new_log

pub returns-then-all_lack-clause-says : goal.returns-then-all_lack-clause-says
returns-then-all_lack-clause-says c =
    subst (AreLacking c.args.book.now c.args.sets.now c.args.target) (sym c.in_ok-copy.ensures)
    (lacking_made c.args.book.now c.args.sets.now c.requires.exact c.args.target c.implied_is_by_maximal_set.ensures c.well_formed-2.ensures c.args.sets.now refl
    (own_lack c.args.book.now c.args.sets.now c.requires.exact c.args.target (c.if-all_lack.ensures refl)))

pub returns-then-all_lack-clause-search : goal.returns-then-all_lack-clause-search
returns-then-all_lack-clause-search c = nothing_done c.args.book.now [] (no_sets c.args.book.now) _ c.args.tally.now c.args.log.now c.requires.new_log

pub returns-in_err-numbers-clause-search : goal.returns-in_err-numbers-clause-search
returns-in_err-numbers-clause-search c = nothing_done c.args.book.now [] (no_sets c.args.book.now) _ c.args.tally.now c.args.log.now c.requires.new_log
