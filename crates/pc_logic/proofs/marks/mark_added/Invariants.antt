use Rattle.pc_logic.specs.inside.Marks.{Keeps}
use Rattle.pc_logic.proofs.MarkLemmas.{AddedBefore}
use Rattle.pc_logic.proofs.marks.mark_added.Given as goal

abbrev pub invariant-loop-term : goal.invariant-loop-term
invariant-loop-term l = record { marked : AddedBefore l.marks l.items l.term-index; kept : Keeps l.initial.marks l.marks }
