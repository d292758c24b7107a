use Rattle.pc_ask.specs.inside.Parts.{AreMarkedBelow}
use Rattle.pc_ask.proofs.part.marked_clauses.Given as goal

abbrev pub invariant-loop-number : goal.invariant-loop-number
invariant-loop-number l = AreMarkedBelow l.store l.marks l.number l.used.items
