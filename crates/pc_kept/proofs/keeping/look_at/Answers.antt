use Rattle.std.proofs.Common.{length, subst, sym}
use Rattle.pc_kept.specs.inside.Checks.{AreRight}
use Rattle.pc_kept.proofs.OneStep.{none_right}
use Rattle.pc_kept.proofs.keeping.look_at.Goals as goal

pub returns-clause-right : goal.returns-clause-right
returns-clause-right c =
    let start = subst (AreRight c.args.store.now c.args.kept.now) (sym c.clear.ensures) (none_right c.args.store.now c.args.kept.now (length c.args.values.now)) in
    c.force_on.ensures.forced (c.force_back.ensures.forced start)
