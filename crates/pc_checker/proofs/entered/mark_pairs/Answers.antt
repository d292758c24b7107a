use Rattle.std.proofs.Common.{get_or, subst}
use Rattle.std.proofs.lemmas.List.{take_all}
use Rattle.pc_checker.specs.Entered.{ArePairsMarked}
use Rattle.pc_checker.proofs.ClaimLemmas.{first_entry}
use Rattle.pc_checker.proofs.EnteredLemmas.{still_has_place, pair_more}
use Rattle.pc_checker.proofs.entered.mark_pairs.Goals as goal

pub loop-entry-preserved : goal.loop-entry-preserved
loop-entry-preserved c =
    let i = c.loop-entry.entry-index in
    pair_more c.args.entries.now i c.place_of.result first_entry c.loop-entry.marks c.loop-entry-test.true c.place_of.ensures
    (still_has_place c.args.marks.now c.loop-entry.marks (get_or c.args.entries.now i first_entry) c.loop-entry.auto.marks (c.requires.within i first_entry c.loop-entry-test.true)) c.loop-entry.invariant

pub returns : goal.returns
returns c = subst (λ es. ArePairsMarked es c.loop-entry.marks) (take_all c.loop-entry.entry-index c.args.entries.now c.loop-entry-test.false) c.loop-entry.invariant
