use Rattle.pc_solver.proofs.ClauseLemmas.{IsSearch-same}
use Rattle.pc_solver.proofs.TurnLemmas.{step_ready, ready_short}
use Rattle.pc_solver.proofs.search.Search.refute.Goals as goal

pub add_last_step-requires-clause-references : goal.add_last_step-requires-clause-references
add_last_step-requires-clause-references c =
    (step_ready c.args.self.now c.self.inside.clauses c.self.inside.trail _ _ _ _ c.self.view_is c.self.invariant c.deref.ensures.value c.deref-2.ensures.value c.requires.references c.requires.good c.requires.over_own).0

pub add_last_step-requires-clause-good : goal.add_last_step-requires-clause-good
add_last_step-requires-clause-good c =
    (step_ready c.args.self.now c.self.inside.clauses c.self.inside.trail _ _ _ _ c.self.view_is c.self.invariant c.deref.ensures.value c.deref-2.ensures.value c.requires.references c.requires.good c.requires.over_own).1

pub add_last_step-requires-clause-over_own : goal.add_last_step-requires-clause-over_own
add_last_step-requires-clause-over_own c =
    (step_ready c.args.self.now c.self.inside.clauses c.self.inside.trail _ _ _ _ c.self.view_is c.self.invariant c.deref.ensures.value c.deref-2.ensures.value c.requires.references c.requires.good c.requires.over_own).2

pub add_last_step-requires-clause-short : goal.add_last_step-requires-clause-short
add_last_step-requires-clause-short c = ready_short c.args.self.now c.self.inside.clauses c.self.inside.trail _ _ _ _ c.self.view_is c.deref.ensures.value c.deref-2.ensures.value c.requires.short

pub invariant_of-self : goal.invariant_of-self
invariant_of-self c = IsSearch-same c.self.inside.clauses c.add_last_step.new.self c.self.inside.trail c.in_err-id.ensures.same c.self.invariant

pub invariant_of-self-2 : goal.invariant_of-self-2
invariant_of-self-2 c = IsSearch-same c.self.inside.clauses c.add_last_step.new.self c.self.inside.trail c.in_ok-id.ensures.same c.self.invariant
