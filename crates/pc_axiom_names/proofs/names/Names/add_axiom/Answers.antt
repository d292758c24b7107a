use Rattle.pc_axiom_names.proofs.Longer.{on_err, names_longer, within_longer, axiom_within, axiom_added}
use Rattle.pc_axiom_names.proofs.Rising.{axiom_rises}
use Rattle.pc_axiom_names.proofs.names.Names.add_axiom.Goals as goal

pub returns-in_err-kept-clause-err : goal.returns-in_err-kept-clause-err
returns-in_err-kept-clause-err c = on_err c.from_residual.result (names_longer _ _ _ _ c.in_err-kept.ensures.paths c.in_err-kept.ensures.rows _ _ _ c.self.invariant.0 c.self.view_is)

pub invariant_of-self-in_err-push : goal.invariant_of-self-in_err-push
invariant_of-self-in_err-push c = rw c.in_err-push.ensures.items (within_longer _ _ _ _ c.in_ok-kept.ensures.paths c.in_ok-kept.ensures.rows _ _ c.self.invariant.0, c.self.invariant.1)

pub returns-in_err-push-clause-err : goal.returns-in_err-push-clause-err
returns-in_err-push-clause-err c =
    on_err c.from_residual-in_err-push.result (rw c.in_err-push.ensures.items (names_longer _ _ _ _ c.in_ok-kept.ensures.paths c.in_ok-kept.ensures.rows _ _ _ c.self.invariant.0 c.self.view_is))

pub invariant_of-self-2 : goal.invariant_of-self-2
invariant_of-self-2 c = rw c.in_ok-push.ensures.items (axiom_within _ _ _ _ _ (within_longer _ _ _ _ c.in_ok-kept.ensures.paths c.in_ok-kept.ensures.rows _ _ c.self.invariant.0) c.in_ok-kept.ensures.within, axiom_rises _ _ c.self.inside.variables.items c.self.inside.axioms.items _ c.in_ok-kept.ensures.last c.self.invariant.0.1 c.self.invariant.1)

pub returns-clause-ok : goal.returns-clause-ok
returns-clause-ok c = rw c.in_ok-push.ensures.items (axiom_added _ _ _ _ _ _ _ (names_longer _ _ _ _ c.in_ok-kept.ensures.paths c.in_ok-kept.ensures.rows _ _ _ c.self.invariant.0 c.self.view_is) c.in_ok-kept.ensures.named)
