use Rattle.std.proofs.Common.{sym, subst, Contains, All, List, length}
use Rattle.std.specs.Prelude.{Ok}
use Rattle.pc_lits.specs.declared.literal.Lit.{Lit}
use Rattle.pc_lits.specs.declared.literal.Var.{Var}
use Rattle.pc_lits.specs.Literals.{negated}
use Rattle.pc_lits.specs.Steps.{IsGoodStep}
use Rattle.pc_propagate.specs.declared.clauses.ClauseRef.{ClauseRef}
use Rattle.pc_propagate.specs.Entries.{falses}
use Rattle.pc_propagate.specs.TrailView.{TrailView}
use Rattle.pc_propagate.specs.Refs.{clauses_of_refs}
use Rattle.pc_analyze.specs.Learning.{AreDecisionsAmong}
use Rattle.pc_solver.specs.Clauses.{IsOverOwn}
use Rattle.pc_solver.specs.InLog.{IsShort}
use Rattle.pc_solver.specs.inside.Search.{SearchView}
use Rattle.pc_solver.proofs.LearnLemmas.{hints_short}
use Rattle.pc_solver.proofs.EndLemmas.{decisions_assumed}
use Rattle.pc_solver.proofs.SearchLemmas.{on_err}
use Rattle.pc_solver.proofs.TurnLemmas.{good_same, refutes, negated_over, logs_none, derives, refutes_kept, knows_logged}
use Rattle.pc_solver.proofs.ReasonLemmas.{twice_true}
use Rattle.pc_solver.proofs.search.Search.refute_assumption.Goals as goal

pub final_clause-requires-clause-failed : goal.final_clause-requires-clause-failed
final_clause-requires-clause-failed c = subst (λ (s : SearchView). Contains (falses s.trail.entries) c.args.failed) (sym c.self.view_is) c.requires.failed.1

pub refute-requires-clause-references : goal.refute-requires-clause-references
refute-requires-clause-references c = subst (λ (s : SearchView). All (λ (r : ClauseRef). Contains s.trail.attached r) c.in_ok-last.last.hints.items) c.self.view_is c.in_ok-last.ensures.refs

pub refute-requires-clause-good : goal.refute-requires-clause-good
refute-requires-clause-good c =
    subst (λ (s : SearchView). IsGoodStep negated c.in_ok-last.last.clause.items (clauses_of_refs s.clauses.axioms s.clauses.more c.in_ok-last.last.hints.items)) c.self.view_is
    (good_same _ _ _ _ c.in_ok-last.last.hints.items c.in_ok-last.last.clause.items c.axioms.ensures.is c.more.ensures c.in_ok-last.ensures.good)

pub refute-requires-clause-over_own : goal.refute-requires-clause-over_own
refute-requires-clause-over_own c =
    let among = decisions_assumed c.args.assumed.now c.args.self.now.trail.entries c.args.failed c.recall.ensures.entries.different c.requires.under_way.first c.requires.failed.0 c.requires.failed.1 in
    negated_over c.args.self.now.clauses.own c.args.assumed.now c.in_ok-last.last.clause.items c.requires.under_way.over_own
    (c.in_ok-last.ensures.only c.args.assumed.now c.requires.failed.0 (subst (λ (s : SearchView). AreDecisionsAmong s.trail.entries c.args.assumed.now) (sym c.self.view_is) among))

pub refute-requires-clause-short : goal.refute-requires-clause-short
refute-requires-clause-short c =
    let among = decisions_assumed c.args.assumed.now c.args.self.now.trail.entries c.args.failed c.recall.ensures.entries.different c.requires.under_way.first c.requires.failed.0 c.requires.failed.1 in
    let over = negated_over c.args.self.now.clauses.own c.args.assumed.now c.in_ok-last.last.clause.items c.requires.under_way.over_own
    (c.in_ok-last.ensures.only c.args.assumed.now c.requires.failed.0 (subst (λ (s : SearchView). AreDecisionsAmong s.trail.entries c.args.assumed.now) (sym c.self.view_is) among)) in
    subst (λ (s : SearchView). IsShort s.clauses.own c.in_ok-last.last.clause.items (length c.in_ok-last.last.hints.items)) c.self.view_is
    (hints_short c.needed_hints_are_few.ensures c.self.inside.clauses c.self.inside.trail _ _ c.in_ok-last.last.clause.items c.in_ok-last.last.hints.items c.axioms.ensures.is c.more.ensures c.self.invariant c.in_ok-last.ensures.refs c.in_ok-last.ensures.different
    (subst (λ (s : SearchView). IsOverOwn s.clauses.own c.in_ok-last.last.clause.items) (sym c.self.view_is) over) c.in_ok-last.ensures.good c.in_ok-last.ensures.needed)

pub keep_reason-requires-clause-is_true : goal.keep_reason-requires-clause-is_true
keep_reason-requires-clause-is_true c =
    subst (λ (l : Lit). Contains (falses c.refute.new.self.trail.entries) (negated l)) (sym c.negated.ensures)
    (subst (λ (t : TrailView). Contains (falses t.entries) (negated (negated c.args.failed))) (sym c.in_ok-ended.ensures.ok.trail) (twice_true c.args.self.now.trail.entries c.args.failed c.requires.failed.1))

pub keep_reason-requires-clause-has : goal.keep_reason-requires-clause-has
keep_reason-requires-clause-has c = subst (Contains c.in_ok-last.last.clause.items) (sym c.negated.ensures) c.in_ok-last.ensures.own

pub keep_reason-requires-clause-over_own : goal.keep_reason-requires-clause-over_own
keep_reason-requires-clause-over_own c =
    let among = decisions_assumed c.args.assumed.now c.args.self.now.trail.entries c.args.failed c.recall.ensures.entries.different c.requires.under_way.first c.requires.failed.0 c.requires.failed.1 in
    subst (λ (own : List Var). IsOverOwn own c.in_ok-last.last.clause.items) (sym c.in_ok-ended.ensures.ok.same.own)
    (negated_over c.args.self.now.clauses.own c.args.assumed.now c.in_ok-last.last.clause.items c.requires.under_way.over_own
    (c.in_ok-last.ensures.only c.args.assumed.now c.requires.failed.0 (subst (λ (s : SearchView). AreDecisionsAmong s.trail.entries c.args.assumed.now) (sym c.self.view_is) among)))

pub keep_reason-requires-clause-all : goal.keep_reason-requires-clause-all
keep_reason-requires-clause-all c = knows_logged _ _ _ _ _ c.in_ok-ended.ensures.ok c.requires.under_way.all

pub keep_reason-requires-clause-log : goal.keep_reason-requires-clause-log
keep_reason-requires-clause-log c = c.in_ok-ended.ensures.ok.logged

pub returns-clause-ok : goal.returns-clause-ok
returns-clause-ok c = derives c.args.self.now c.refute.new.self c.keep_reason.new.self c.args.log.now c.refute.new.log c.in_ok-ended.ensures.ok c.keep_reason.ensures

pub returns-clause-refutes : goal.returns-clause-refutes
returns-clause-refutes c =
    let among = decisions_assumed c.args.assumed.now c.args.self.now.trail.entries c.args.failed c.recall.ensures.entries.different c.requires.under_way.first c.requires.failed.0 c.requires.failed.1 in
    refutes_kept c.refute.new.self c.keep_reason.new.self c.args.assumed.now c.refute.new.log c.in_ok-ended.ended c.keep_reason.ensures
    (refutes c.refute.new.self c.args.assumed.now c.refute.new.log c.in_ok-last.last.clause.items (Ok c.in_ok-ended.ended)
    (c.in_ok-last.ensures.only c.args.assumed.now c.requires.failed.0 (subst (λ (s : SearchView). AreDecisionsAmong s.trail.entries c.args.assumed.now) (sym c.self.view_is) among)) c.in_ok-ended.ensures.unsat c.in_ok-ended.ensures.step)

pub returns-in_err-ended-clause-err : goal.returns-in_err-ended-clause-err
returns-in_err-ended-clause-err c = on_err c.from_residual-in_err-ended.result c.in_err-ended.ensures.err

pub returns-in_err-last-clause-err : goal.returns-in_err-last-clause-err
returns-in_err-last-clause-err c = on_err c.from_residual.result (logs_none c.args.self.now c.args.log.now c.requires.under_way.logged)
