use Rattle.std.proofs.Common.{subst}
use Rattle.pc_propagate.specs.Propagation.{Propagates}
use Rattle.pc_solver.specs.inside.Search.{SearchView}
use Rattle.pc_solver.proofs.SearchLemmas.{search_grows}
use Rattle.pc_solver.proofs.TurnLemmas.{over_same, step_same}
use Rattle.pc_solver.proofs.search.Search.propagate.Goals as goal

pub invariant_of-self : goal.invariant_of-self
invariant_of-self c =
    search_grows c.quiet_is_kept.ensures c.self.inside.clauses c.self.inside.trail c.propagate.new.self c.args.tally.now c.propagate.new.tally c.self.invariant c.propagate.ensures.grows (over_same c.propagate.new.self _ _ _ _ c.axioms.ensures.is c.more.ensures c.propagate.ensures.over)

pub returns-clause-grows : goal.returns-clause-grows
returns-clause-grows c = subst (λ (s : SearchView). Propagates s.trail c.propagate.new.self c.args.tally.now c.propagate.new.tally) c.self.view_is c.propagate.ensures.grows

pub returns-clause-step : goal.returns-clause-step
returns-clause-step c = step_same c.propagate.new.self c.propagate.new.tally c.propagate.result _ _ _ _ c.axioms.ensures.is c.more.ensures c.propagate.ensures.step
