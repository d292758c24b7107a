use Rattle.pc_checker.proofs.EnteredLemmas.{sets_have_places}
use Rattle.pc_checker.proofs.claim.fault_of_sets.Goals as goal

pub first_in_set-requires-clause-places : goal.first_in_set-requires-clause-places
first_in_set-requires-clause-places c = sets_have_places c.args.book.now c.args.marks.now c.args.sets.now c.well_formed-2.ensures.universe c.requires.marks c.requires.prepared.each
