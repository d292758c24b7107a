use Rattle.pc_checker.specs.Made.{entries_of}
use Rattle.pc_checker.proofs.EnteredLemmas.{still_have_places}
use Rattle.pc_checker.proofs.sets.is_within.Goals as goal

pub are_used-requires : goal.are_used-requires
are_used-requires c = still_have_places c.args.marks.now c.mark_uses.new.marks c.args.uses.now c.mark_uses.ensures.room c.requires.uses

pub returns-clause-within : goal.returns-clause-within
returns-clause-within c = c.are_used.ensures (entries_of c.args.others.now) c.mark_uses.ensures.marked
