use Rattle.std.proofs.Common.{◌+◌, ◌<◌}
use Rattle.pc_analyze.specs.inside.Graph.{banned_of}
use Rattle.pc_analyze.proofs.WalkLemmas.{IsWalked}
use Rattle.pc_analyze.proofs.WayLemmas.{KeepsWays}
use Rattle.pc_analyze.proofs.graph.ConflictGraph.resolve_level.Given as goal

abbrev pub invariant-walk : goal.invariant-walk
invariant-walk l = (l.place < l.end) × IsWalked l.self.graph l.start (l.place + 1) l.left l.marks l.hints.items
    × KeepsWays l.self.graph.axioms.now l.self.graph.more.now (banned_of l.self) l.self.graph.trail.now.entries l.start l.end l.initial.marks (l.place + 1) l.marks

abbrev pub decreases-walk : goal.decreases-walk
decreases-walk l = l.place
