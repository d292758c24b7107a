use Rattle.std.proofs.Common.{◌-◌, length}
use Rattle.pc_log.proofs.ReachLemmas.{Seen}
use Rattle.pc_log.proofs.trimming.search.Given as goal

abbrev pub invariant-loop-next : goal.invariant-loop-next
invariant-loop-next l = Seen l.log l.fn.last.0 l.next l.reached.items l.slots

abbrev pub decreases-loop-next : goal.decreases-loop-next
decreases-loop-next l = length l.slots - l.next
