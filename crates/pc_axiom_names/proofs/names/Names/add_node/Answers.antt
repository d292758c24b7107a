use Rattle.std.proofs.Common.{arith}
use Rattle.std.proofs.lemmas.List.{take_all}
use Rattle.pc_axiom_names.proofs.Longer.{on_err, names_longer, within_longer, node_within, node_added}
use Rattle.pc_axiom_names.proofs.Rising.{node_rises}
use Rattle.pc_axiom_names.proofs.names.Names.add_node.Goals as goal

pub returns-in_err-place-clause-err : goal.returns-in_err-place-clause-err
returns-in_err-place-clause-err c = on_err c.from_residual.result (names_longer _ _ _ _ c.in_err-place.ensures.kept (take_all _ c.self.inside.reads (omega arith)) _ _ _ c.self.invariant.0 c.self.view_is)

pub invariant_of-self-in_err-push : goal.invariant_of-self-in_err-push
invariant_of-self-in_err-push c = rw c.in_err-push.ensures.items (within_longer _ _ _ _ c.in_ok-place.ensures.kept (take_all _ c.self.inside.reads (omega arith)) _ _ c.self.invariant.0, c.self.invariant.1)

pub returns-in_err-push-clause-err : goal.returns-in_err-push-clause-err
returns-in_err-push-clause-err c =
    on_err c.from_residual-in_err-push.result (rw c.in_err-push.ensures.items (names_longer _ _ _ _ c.in_ok-place.ensures.kept (take_all _ c.self.inside.reads (omega arith)) _ _ _ c.self.invariant.0 c.self.view_is))

pub invariant_of-self-2 : goal.invariant_of-self-2
invariant_of-self-2 c = rw c.in_ok-push.ensures.items (node_within _ _ _ _ _ _ _ (within_longer _ _ _ _ c.in_ok-place.ensures.kept (take_all _ c.self.inside.reads (omega arith)) _ _ c.self.invariant.0) c.in_ok-place.ensures.here, node_rises _ _ c.self.inside.variables.items c.self.inside.axioms.items c.in_ok-place.ensures.last c.self.invariant.0.0 c.self.invariant.1)

pub returns-clause-ok : goal.returns-clause-ok
returns-clause-ok c = rw c.in_ok-push.ensures.items (node_added _ _ _ _ _ _ _ _ (names_longer _ _ _ _ c.in_ok-place.ensures.kept (take_all _ c.self.inside.reads (omega arith)) _ _ _ c.self.invariant.0 c.self.view_is) c.in_ok-place.ensures.here)
