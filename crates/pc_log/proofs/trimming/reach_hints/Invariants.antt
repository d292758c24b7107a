use Rattle.std.proofs.Common.{take}
use Rattle.pc_log.specs.inside.Reached.{AreReached}
use Rattle.pc_log.proofs.ReachLemmas.{AreHints}
use Rattle.pc_log.proofs.trimming.reach_hints.Given as goal

abbrev pub invariant-loop-hint : goal.invariant-loop-hint
invariant-loop-hint l = AreReached l.initial.reached.items l.reached.items l.slots (AreHints (take l.hint-index l.hints))
