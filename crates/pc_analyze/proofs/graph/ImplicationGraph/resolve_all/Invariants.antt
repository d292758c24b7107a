use Rattle.pc_analyze.proofs.WalkLemmas.{IsKept}
use Rattle.pc_analyze.proofs.graph.ImplicationGraph.resolve_all.Given as goal

abbrev pub invariant-walk : goal.invariant-walk
invariant-walk l = IsKept l.self l.end l.place l.marks l.hints.items l.initial.clause.items l.clause.items

abbrev pub decreases-walk : goal.decreases-walk
decreases-walk l = l.place
