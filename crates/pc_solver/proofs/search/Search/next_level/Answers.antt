use Rattle.std.proofs.Common.{sym, subst}
use Rattle.pc_solver.specs.Clauses.{IsOverOwn}
use Rattle.pc_solver.specs.inside.Search.{SearchView}
use Rattle.pc_solver.proofs.ClauseLemmas.{own_in_range}
use Rattle.pc_solver.proofs.search.Search.next_level.Goals as goal

pub assumed_level-base-requires : goal.assumed_level-base-requires
assumed_level-base-requires c =
    own_in_range c.self.inside.clauses.own c.self.inside.trail.variables c.args.assumed.now c.self.invariant.over_own.in_range (subst (λ (s : SearchView). IsOverOwn s.clauses.own c.args.assumed.now) (sym c.self.view_is) c.requires)
