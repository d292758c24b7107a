use Rattle.std.proofs.Common.{map, subst}
use Rattle.pc_logic.proofs.MarkLemmas.{item_kept}
use Rattle.pc_logic.specs.inside.Marks.{AddedAreMarked}
use Rattle.pc_sheet.specs.Views.{added_of, item_of}
use Rattle.pc_logic.proofs.marks.mark_side.Goals as goal

pub returns-clause-marked : goal.returns-clause-marked
returns-clause-marked c = (
  item_kept c.mark_term.new.marks c.mark_added.new.marks c.mark_added.ensures.kept (item_of c.args.side.now.first) c.mark_term.ensures.marked,
  subst (λ xs. AddedAreMarked c.mark_added.new.marks (map added_of xs)) c.deref.ensures.value c.mark_added.ensures.marked,
)
