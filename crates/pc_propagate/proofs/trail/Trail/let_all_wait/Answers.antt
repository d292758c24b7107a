use Rattle.std.proofs.Common.{arith}
use Rattle.pc_propagate.proofs.WatchLemmas.{waited_over, waited_kept}
use Rattle.pc_propagate.proofs.trail.Trail.let_all_wait.Goals as goal

pub returns-clause-over : goal.returns-clause-over
returns-clause-over c = waited_over _ _ c.args.lit c.watches.index c.args.self.now c.watches.self c.watches.invariant c.requires.over

pub returns-clause-kept : goal.returns-clause-kept
returns-clause-kept c =
    waited_kept _ _ c.args.lit c.watch_count-count.result c.watches.index c.args.self.now c.watches.self c.watches.invariant c.watch_count-count.ensures (omega (arith, c.watches-test.false)) c.requires.over c.requires.at c.recall_watches.ensures
