use Rattle.pc_analyze.proofs.FreeLemmas.{IsFreed}
use Rattle.pc_analyze.proofs.graph.ConflictGraph.resolve_banned.Given as goal

abbrev pub invariant-walk : goal.invariant-walk
invariant-walk l = IsFreed l.self l.point l.place l.initial.marks l.marks l.hints.items

abbrev pub decreases-walk : goal.decreases-walk
decreases-walk l = l.place
