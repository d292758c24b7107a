use Rattle.pc_propagate.proofs.MoveLemmas.{HaveComeOver}
use Rattle.pc_propagate.proofs.CountLemmas.{count_in}
use Rattle.pc_propagate.proofs.lists.Lists.move_all.Given as goal

abbrev pub invariant-loop-place : goal.invariant-loop-place
invariant-loop-place l = HaveComeOver l.list l.other l.initial.self l.self

abbrev pub decreases-loop-place : goal.decreases-loop-place
decreases-loop-place l = count_in l.list l.self.list_of
