use Rattle.std.proofs.Common.{◌≡◌, ◌∙◌, sym, ap, subst, ℕ, Bool, List, [], Option, Some, IsNone, slice_get}
use Rattle.pc_propagate.specs.declared.trail.TrailEntry.{TrailEntry}
use Rattle.pc_propagate.specs.Propagation.{IsFalsified}
use Rattle.pc_analyze.specs.FirstPoint.{IsBannedAt}
use Rattle.pc_solver.specs.inside.Banning.{values_in}
use Rattle.pc_solver.specs.inside.Search.{SearchView}
use Rattle.pc_solver.proofs.BannedLemmas.{decided_at}
use Rattle.pc_solver.proofs.LearnLemmas.{level_seen, learned_lent, asserting_lent, free_lent, free_anyway}
use Rattle.pc_solver.proofs.TurnLemmas.{conflict_same}
use Rattle.pc_solver.proofs.search.Search.analyze_conflict.Goals as goal

pub analyze-requires-clause-level : goal.analyze-requires-clause-level
analyze-requires-clause-level c = rw (c.axioms.ensures.is, c.more.ensures) (level_seen c.args.self.now c.args.conflict c.self.inside.clauses c.self.inside.trail c.self.view_is c.requires.level)

pub analyze-requires-clause-conflict : goal.analyze-requires-clause-conflict
analyze-requires-clause-conflict c =
    conflict_same c.self.inside.trail.entries c.args.conflict _ _ _ _ c.axioms.ensures.is c.more.ensures (subst (λ (s : SearchView). IsFalsified s.clauses.axioms s.clauses.more s.trail.entries c.args.conflict) (sym c.self.view_is) c.requires.conflict)

pub returns-in-None-clause-learned : goal.returns-in-None-clause-learned
returns-in-None-clause-learned c = learned_lent c.args.self.now c.self.inside.clauses c.self.inside.trail c.self.view_is c.analyze.result _ _ c.axioms.ensures.is c.more.ensures c.analyze.ensures.learned

pub returns-in-None-clause-asserting : goal.returns-in-None-clause-asserting
returns-in-None-clause-asserting c = asserting_lent c.args.self.now c.self.inside.clauses c.self.inside.trail c.self.view_is c.analyze.result _ _ c.args.conflict c.axioms.ensures.is c.more.ensures c.analyze.ensures.asserting

pub returns-in-None-clause-free : goal.returns-in-None-clause-free
returns-in-None-clause-free c =
    free_lent c.args.self.now c.self.inside.clauses c.self.inside.trail c.self.view_is c.analyze.result [] (sym (ap values_in c.in-None.is) ∙ c.values.ensures ∙ c.banned.ensures) (free_anyway c.analyze.result)

pub analyze_free-requires-clause-level : goal.analyze_free-requires-clause-level
analyze_free-requires-clause-level c = rw (c.axioms-in-Some.ensures.is, c.more-in-Some.ensures) (level_seen c.args.self.now c.args.conflict c.self.inside.clauses c.self.inside.trail c.self.view_is c.requires.level)

pub analyze_free-requires-clause-conflict : goal.analyze_free-requires-clause-conflict
analyze_free-requires-clause-conflict c =
    conflict_same c.self.inside.trail.entries c.args.conflict _ _ _ _ c.axioms-in-Some.ensures.is c.more-in-Some.ensures (subst (λ (s : SearchView). IsFalsified s.clauses.axioms s.clauses.more s.trail.entries c.args.conflict) (sym c.self.view_is) c.requires.conflict)

pub analyze_free-requires-clause-quiet : goal.analyze_free-requires-clause-quiet
analyze_free-requires-clause-quiet c = rw (c.axioms-in-Some.ensures.is, c.more-in-Some.ensures) c.self.invariant.quiet

pub analyze_free-requires-clause-decided : goal.analyze_free-requires-clause-decided
analyze_free-requires-clause-decided c =
    let same : c.in-Some.values.now ≡ c.self.inside.clauses.banned = sym (ap values_in c.in-Some.is) ∙ c.values.ensures ∙ c.banned.ensures in
    subst (λ (b : List (Option Bool)). (place : ℕ) (e : TrailEntry) → slice_get c.self.inside.trail.entries place ≡ Some e → IsNone e.reason → ¬ IsBannedAt b c.self.inside.trail.entries place) (sym same)
    (decided_at c.self.inside.clauses.banned c.self.inside.trail.entries c.self.invariant.decided)

pub returns-in-Some-clause-learned : goal.returns-in-Some-clause-learned
returns-in-Some-clause-learned c = learned_lent c.args.self.now c.self.inside.clauses c.self.inside.trail c.self.view_is c.analyze_free.result _ _ c.axioms-in-Some.ensures.is c.more-in-Some.ensures c.analyze_free.ensures.learned

pub returns-in-Some-clause-asserting : goal.returns-in-Some-clause-asserting
returns-in-Some-clause-asserting c = asserting_lent c.args.self.now c.self.inside.clauses c.self.inside.trail c.self.view_is c.analyze_free.result _ _ c.args.conflict c.axioms-in-Some.ensures.is c.more-in-Some.ensures c.analyze_free.ensures.asserting

pub returns-in-Some-clause-free : goal.returns-in-Some-clause-free
returns-in-Some-clause-free c =
    free_lent c.args.self.now c.self.inside.clauses c.self.inside.trail c.self.view_is c.analyze_free.result c.in-Some.values.now (sym (ap values_in c.in-Some.is) ∙ c.values.ensures ∙ c.banned.ensures) c.analyze_free.ensures.free
