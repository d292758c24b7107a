use Rattle.pc_logic.specs.inside.Marks.{Keeps}
use Rattle.pc_logic.proofs.MarkLemmas.{TermsBefore}
use Rattle.pc_logic.proofs.marks.+mark.Given as goal

abbrev pub invariant-mark_terms-loop-term : goal.invariant-mark_terms-loop-term
invariant-mark_terms-loop-term l = record { marked : TermsBefore l.marks l.terms l.term-index; kept : Keeps l.initial.marks l.marks }
