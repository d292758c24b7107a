use Rattle.std.proofs.lemmas.Bool.{OnTrue_at}
use Rattle.pc_kept.specs.inside.Signs.{IsUnnamedAt}
use Rattle.pc_kept.proofs.OneMore.{one_below}
use Rattle.pc_kept.proofs.unnamed.all_unnamed.Goals as goal

pub loop-x-preserved : goal.loop-x-preserved
loop-x-preserved c =
    one_below (IsUnnamedAt c.args.names.now c.args.polarity.now.yes c.args.polarity.now.no c.args.polarity.now.banned) c.loop-x.x c.loop-x.invariant (OnTrue_at c.if-not-is_unnamed.false c.is_unnamed.ensures)
