use Rattle.std.proofs.Common.{ap, sym, ◌∙◌, length}
use Rattle.pc_log.proofs.MarkLemmas.{length-marked, few_more, marked-push_axiom, AreWellMarked-push_axiom}
use Rattle.pc_log.proofs.log.Log.add_axiom.Goals as goal

pub returns-clause-place : goal.returns-clause-place
returns-clause-place c = c.in_ok-id.ensures.place ∙ c.len.ensures ∙ c.self.inside.marks.ok.0 ∙ sym (length-marked _ _) ∙ ap length c.self.view_is

pub invariant_of-self-2 : goal.invariant_of-self-2
invariant_of-self-2 c = rw c.in_ok-push.ensures.items (few_more _ _ _ (c.len.ensures ∙ c.self.inside.marks.ok.0) c.in_ok-id.ensures.few, AreWellMarked-push_axiom _ _ _ c.args.number c.self.invariant.1)

pub returns-clause-ok : goal.returns-clause-ok
returns-clause-ok c = rw (c.in_ok-push.ensures.items, ← c.self.view_is) (marked-push_axiom _ _ c.args.number)
