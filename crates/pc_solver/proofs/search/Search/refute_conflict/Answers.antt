use Rattle.std.proofs.Common.{sym, subst, Contains, All, length}
use Rattle.pc_lits.specs.Literals.{negated}
use Rattle.pc_lits.specs.Steps.{IsGoodStep}
use Rattle.pc_propagate.specs.declared.clauses.ClauseRef.{ClauseRef}
use Rattle.pc_propagate.specs.Propagation.{IsFalsified}
use Rattle.pc_propagate.specs.Refs.{clause_at, clauses_of_refs}
use Rattle.pc_analyze.specs.Levels.{IsHighestLevel}
use Rattle.pc_solver.specs.InLog.{IsShort}
use Rattle.pc_solver.specs.inside.Search.{SearchView}
use Rattle.pc_solver.proofs.LearnLemmas.{hints_short}
use Rattle.pc_solver.proofs.SearchLemmas.{on_err}
use Rattle.pc_solver.proofs.TurnLemmas.{conflict_same, level_same, good_same, refutes, over_nothing, nothing_over, logs_none}
use Rattle.pc_solver.proofs.search.Search.refute_conflict.Goals as goal

pub empty_clause-requires-clause-attached : goal.empty_clause-requires-clause-attached
empty_clause-requires-clause-attached c = subst (λ (s : SearchView). Contains s.trail.attached c.args.conflict) (sym c.self.view_is) c.requires.attached

pub empty_clause-requires-clause-conflict : goal.empty_clause-requires-clause-conflict
empty_clause-requires-clause-conflict c =
    conflict_same c.self.inside.trail.entries c.args.conflict _ _ _ _ c.axioms.ensures.is c.more.ensures (subst (λ (s : SearchView). IsFalsified s.clauses.axioms s.clauses.more s.trail.entries c.args.conflict) (sym c.self.view_is) c.requires.conflict)

pub empty_clause-requires-clause-level : goal.empty_clause-requires-clause-level
empty_clause-requires-clause-level c =
    level_same c.self.inside.trail.entries _ _ _ _ c.args.conflict 0 (sym c.axioms.ensures.is) (sym c.more.ensures)
    (subst (λ (s : SearchView). IsHighestLevel s.trail.entries (clause_at s.clauses.axioms s.clauses.more c.args.conflict) 0) (sym c.self.view_is) c.requires.level)

pub refute-requires-clause-references : goal.refute-requires-clause-references
refute-requires-clause-references c = subst (λ (s : SearchView). All (λ (r : ClauseRef). Contains s.trail.attached r) c.in_ok-last.last.hints.items) c.self.view_is c.in_ok-last.ensures.learned.are_attached

pub refute-requires-clause-good : goal.refute-requires-clause-good
refute-requires-clause-good c =
    subst (λ (s : SearchView). IsGoodStep negated c.in_ok-last.last.clause.items (clauses_of_refs s.clauses.axioms s.clauses.more c.in_ok-last.last.hints.items)) c.self.view_is
    (good_same _ _ _ _ c.in_ok-last.last.hints.items c.in_ok-last.last.clause.items c.axioms.ensures.is c.more.ensures c.in_ok-last.ensures.learned.good)

pub refute-requires-clause-over_own : goal.refute-requires-clause-over_own
refute-requires-clause-over_own c = nothing_over c.args.self.now.clauses.own c.in_ok-last.last.clause.items c.in_ok-last.ensures.empty

pub refute-requires-clause-short : goal.refute-requires-clause-short
refute-requires-clause-short c =
    let learned = c.in_ok-last.ensures.learned in
    subst (λ (s : SearchView). IsShort s.clauses.own c.in_ok-last.last.clause.items (length c.in_ok-last.last.hints.items)) c.self.view_is
    (hints_short c.needed_hints_are_few.ensures c.self.inside.clauses c.self.inside.trail _ _ c.in_ok-last.last.clause.items c.in_ok-last.last.hints.items c.axioms.ensures.is c.more.ensures c.self.invariant learned.are_attached learned.different
    (nothing_over c.self.inside.clauses.own c.in_ok-last.last.clause.items c.in_ok-last.ensures.empty) learned.good learned.needed)

pub returns-clause-refutes : goal.returns-clause-refutes
returns-clause-refutes c = refutes c.refute.new.self c.args.assumed.now c.refute.new.log c.in_ok-last.last.clause.items c.refute.result (over_nothing c.args.assumed.now c.in_ok-last.last.clause.items c.in_ok-last.ensures.empty) c.refute.ensures.unsat c.refute.ensures.step

pub returns-in_err-last-clause-err : goal.returns-in_err-last-clause-err
returns-in_err-last-clause-err c = on_err c.from_residual.result (logs_none c.args.self.now c.args.log.now c.requires.under_way.logged)
