use Rattle.std.proofs.lemmas.List.Elements.{All-weaker}
use Rattle.pc_checker.specs.Entered.{HasPlace}
use Rattle.pc_checker.specs.Made.{entries_of}
use Rattle.pc_checker.proofs.EnteredLemmas.{still_has_place}
use Rattle.pc_checker.proofs.sets.write_outside.Goals as goal

pub write_unmarked-requires : goal.write_unmarked-requires
write_unmarked-requires c =
    All-weaker (HasPlace c.args.marks.now) (HasPlace c.mark_uses.new.marks) (λ e has. still_has_place c.args.marks.now c.mark_uses.new.marks e c.mark_uses.ensures.room has) c.args.entries.now c.requires.entries

pub returns-clause-written : goal.returns-clause-written
returns-clause-written c = c.write_unmarked.ensures (entries_of c.args.uses.now) c.mark_uses.ensures.marked
