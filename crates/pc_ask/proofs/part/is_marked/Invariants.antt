use Rattle.std.proofs.Common.{take}
use Rattle.pc_ask.specs.inside.Parts.{IsMarkedClause}
use Rattle.pc_ask.proofs.part.is_marked.Given as goal

abbrev pub invariant-loop-literal : goal.invariant-loop-literal
invariant-loop-literal l = IsMarkedClause l.marks (take l.literal-index l.clause)
