use Rattle.std.proofs.Common.{None, ◌<◌, Contains, sym, subst}
use Rattle.std.proofs.lemmas.List.Elements.{All-contains}
use Rattle.pc_lits.specs.declared.literal.Var.{Var}
use Rattle.pc_lits.specs.Literals.{negated}
use Rattle.pc_lits.specs.Values.{MakesTrue}
use Rattle.pc_propagate.specs.Counts.{PlacesEntry}
use Rattle.pc_propagate.specs.Quiet.{IsQuiet}
use Rattle.pc_solver.specs.inside.Search.{SearchView}
use Rattle.pc_solver.proofs.SearchLemmas.{search_placed}
use Rattle.pc_solver.proofs.search.Search.place.Goals as goal

pub place-requires-clause-in_range : goal.place-requires-clause-in_range
place-requires-clause-in_range c =
    All-contains (λ (v : Var). v.0 < c.self.inside.trail.variables) c.self.inside.clauses.own c.args.lit.variable c.self.invariant.over_own.in_range (subst (λ (s : SearchView). Contains s.clauses.own c.args.lit.variable) (sym c.self.view_is) c.requires.own)

pub invariant_of-self : goal.invariant_of-self
invariant_of-self c =
    search_placed c.quiet_is_kept.ensures c.self.inside.clauses (record { literal = c.args.lit; reason = None }) c.self.inside.trail c.place.new.self c.args.tally.now c.place.new.tally c.place.result c.self.invariant c.place.ensures.placed (c.place.ensures.over _ _ c.self.invariant.over)
    (subst (λ (s : SearchView). Contains s.clauses.own c.args.lit.variable) (sym c.self.view_is) c.requires.own) (λ none. subst (λ (s : SearchView). IsQuiet s.clauses.axioms s.clauses.more s.trail) (sym c.self.view_is) c.requires.quiet)
    (λ none. subst (λ (s : SearchView). ¬ MakesTrue s.clauses.banned (negated c.args.lit)) (sym c.self.view_is) c.requires.askable)

pub returns-clause-placed : goal.returns-clause-placed
returns-clause-placed c = subst (λ (s : SearchView). PlacesEntry (record { literal = c.args.lit; reason = None }) s.trail c.place.new.self c.args.tally.now c.place.new.tally c.place.result) c.self.view_is c.place.ensures.placed
