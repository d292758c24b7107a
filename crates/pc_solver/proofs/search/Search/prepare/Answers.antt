use Rattle.std.proofs.Common.{sym, subst}
use Rattle.pc_solver.specs.Clauses.{IsOverOwn}
use Rattle.pc_solver.specs.inside.Search.{SearchView}
use Rattle.pc_solver.proofs.ClauseLemmas.{own_in_range}
use Rattle.pc_solver.proofs.LearnLemmas.{back_search}
use Rattle.pc_solver.proofs.PrepareLemmas.{none_after}
use Rattle.pc_solver.proofs.search.Search.prepare.Goals as goal

pub keep_levels-requires : goal.keep_levels-requires
keep_levels-requires c =
    own_in_range c.self.inside.clauses.own c.self.inside.trail.variables c.args.assumed.now c.self.invariant.over_own.in_range (subst (λ (s : SearchView). IsOverOwn s.clauses.own c.args.assumed.now) (sym c.self.view_is) c.requires)

pub attach_rest-requires-clause-search : goal.attach_rest-requires-clause-search
attach_rest-requires-clause-search c =
    back_search c.quiet_is_kept.ensures c.self.inside.clauses c.self.inside.trail c.back_to.new.self 0 c.self.invariant c.back_to.ensures.back (c.back_to.ensures.over _ _ c.self.invariant.over)

pub attach_rest-requires-clause-level : goal.attach_rest-requires-clause-level
attach_rest-requires-clause-level c = none_after c.self.inside.trail c.back_to.new.self c.back_to.ensures.back

pub invariant_of-self : goal.invariant_of-self
invariant_of-self c =
    back_search c.quiet_is_kept.ensures c.self.inside.clauses c.self.inside.trail c.keep_levels.new.trail c.keep_levels.ensures.back.0 c.self.invariant c.keep_levels.ensures.back.1 (c.keep_levels.ensures.over _ _ c.self.invariant.over)
