use Rattle.std.proofs.Common.{Some, ◌<◌, sym, subst}
use Rattle.std.proofs.lemmas.List.Elements.{All-contains}
use Rattle.pc_lits.specs.declared.literal.Var.{Var}
use Rattle.pc_propagate.specs.declared.clauses.ClauseRef.TheVariants.{More}
use Rattle.pc_propagate.specs.Counts.{PlacesEntry}
use Rattle.pc_solver.specs.declared.learning.Learnt.TheVariants.{Asserting}
use Rattle.pc_solver.specs.inside.Search.{SearchView}
use Rattle.pc_solver.specs.inside.Ends.{LearntSays}
use Rattle.pc_solver.proofs.SearchLemmas.{search_placed}
use Rattle.pc_solver.proofs.TurnLemmas.{no_decision}
use Rattle.pc_solver.proofs.search.Search.imply.Goals as goal

pub imply-requires-clause-in_range : goal.imply-requires-clause-in_range
imply-requires-clause-in_range c =
    let says = subst (λ (s : SearchView). LearntSays s (Asserting c.args.lit c.args.number)) (sym c.self.view_is) c.requires in
    All-contains (λ (v : Var). v.0 < c.self.inside.trail.variables) c.self.inside.clauses.own c.args.lit.variable c.self.invariant.over_own.in_range says.3

pub invariant_of-self : goal.invariant_of-self
invariant_of-self c =
    let says = subst (λ (s : SearchView). LearntSays s (Asserting c.args.lit c.args.number)) (sym c.self.view_is) c.requires in
    search_placed c.quiet_is_kept.ensures c.self.inside.clauses (record { literal = c.args.lit; reason = Some (More c.args.number) }) c.self.inside.trail c.imply.new.self c.args.tally.now c.imply.new.tally c.imply.result c.self.invariant c.imply.ensures.placed
    (c.imply.ensures.over _ _ c.self.invariant.over says.0 says.1) says.3 (λ none. absurd (no_decision (More c.args.number) none)) (λ none. absurd (no_decision (More c.args.number) none))

pub returns-clause-placed : goal.returns-clause-placed
returns-clause-placed c = subst (λ (s : SearchView). PlacesEntry (record { literal = c.args.lit; reason = Some (More c.args.number) }) s.trail c.imply.new.self c.args.tally.now c.imply.new.tally c.imply.result) c.self.view_is c.imply.ensures.placed
