use Rattle.std.proofs.Common.{length, subst, sym}
use Rattle.pc_kept.specs.inside.Checks.{AreRight}
use Rattle.pc_kept.proofs.OneStep.{none_right}
use Rattle.pc_kept.proofs.keeping.force_constants.Goals as goal

pub returns-clause-right : goal.returns-clause-right
returns-clause-right c = c.force_back.ensures.forced (subst (AreRight c.args.store.now c.args.meanings.now) (sym c.clear.ensures) (none_right c.args.store.now c.args.meanings.now (length c.args.constants.now)))
