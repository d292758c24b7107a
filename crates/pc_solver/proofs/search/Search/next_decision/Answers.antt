use Rattle.std.proofs.Common.{Contains, inl, sym, subst}
use Rattle.std.proofs.lemmas.List.Elements.{All-contains}
use Rattle.pc_lits.specs.declared.literal.Lit.{Lit}
use Rattle.pc_propagate.specs.Entries.{HasValue}
use Rattle.pc_solver.specs.Clauses.{IsOverOwn}
use Rattle.pc_solver.specs.inside.Search.{SearchView}
use Rattle.pc_solver.proofs.ClauseLemmas.{own_in_range}
use Rattle.pc_solver.proofs.search.Search.next_decision.Goals as goal

pub next_assumption-requires : goal.next_assumption-requires
next_assumption-requires c =
    own_in_range c.self.inside.clauses.own c.self.inside.trail.variables c.args.assumed.now c.self.invariant.over_own.in_range (subst (λ (s : SearchView). IsOverOwn s.clauses.own c.args.assumed.now) (sym c.self.view_is) c.requires.own)

pub preferred-requires : goal.preferred-requires
preferred-requires c = rw c.own.ensures c.self.invariant.over_own.in_range

pub returns-in-Place-clause-says : goal.returns-in-Place-clause-says
returns-in-Place-clause-says c =
    (All-contains (λ (l : Lit). Contains c.args.self.now.clauses.own l.variable) c.args.assumed.now c.in-Place.lit c.requires.own c.in-Place.ensures.0, subst (λ (s : SearchView). ¬ HasValue s.trail.entries c.in-Place.lit.variable) c.self.view_is c.in-Place.ensures.1, inl c.in-Place.ensures.0, c.requires.askable c.in-Place.lit c.in-Place.ensures.0)
