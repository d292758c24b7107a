use Rattle.pc_axiom_names.proofs.Fewer.{paths_next}
use Rattle.pc_axiom_names.proofs.kept.copied_paths.Goals as goal

pub loop-path-preserved : goal.loop-path-preserved
loop-path-preserved c =
    rw c.in_ok-push.ensures.items
    (paths_next c.args.paths.now c.loop-path.copy.items c.loop-path.path-index c.path-item.result c.in_ok-own.own c.loop-path-test.true c.path-item.is c.in_ok-own.ensures.rule c.in_ok-own.ensures.steps c.loop-path.invariant)
