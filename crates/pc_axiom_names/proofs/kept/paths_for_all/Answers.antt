use Rattle.pc_axiom_names.proofs.Rising.{stand_found}
use Rattle.pc_axiom_names.proofs.kept.paths_for_all.Goals as goal

pub returns-then-count-gt0 : goal.returns-then-count-gt0
returns-then-count-gt0 c =
    stand_found c.args.variables.now c.loop-left.left c.paths_for-count.result _ c.loop-left-test.true c.loop-left.invariant.left c.paths_for-count.ensures c.if-count-gt0.true c.loop-left.invariant.pairs c.requires
