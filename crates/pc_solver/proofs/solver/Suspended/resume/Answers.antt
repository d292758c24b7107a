use Rattle.std.proofs.Common.{◌∙◌, sym, ap, subst, []}
use Rattle.pc_solver.specs.InLog.{IsLogOf}
use Rattle.pc_solver.specs.Banned.{trues_of}
use Rattle.pc_solver.specs.Solver.{SuspendedView}
use Rattle.pc_solver.proofs.HasLogLemmas.{has_log}
use Rattle.pc_solver.proofs.LearnLemmas.{logs_known}
use Rattle.pc_solver.proofs.SolverLemmas.{problem_moved, resumed_search}
use Rattle.pc_solver.proofs.solver.Suspended.resume.Goals as goal

pub attach_used-requires-clause-used_in : goal.attach_used-requires-clause-used_in
attach_used-requires-clause-used_in c =
    (problem_moved c.args.self c.self.inside.clauses c.forget_trail.new.self c.axioms.result.now c.used.result.now c.own.result.now c.args.trail.variables c.self.view_is c.forget_trail.ensures c.axioms.ensures.is c.used.ensures c.own.ensures c.requires).used_in

pub attach_used-requires-clause-own_in : goal.attach_used-requires-clause-own_in
attach_used-requires-clause-own_in c =
    rw c.clear.ensures.variables
    (problem_moved c.args.self c.self.inside.clauses c.forget_trail.new.self c.axioms.result.now c.used.result.now c.own.result.now c.args.trail.variables c.self.view_is c.forget_trail.ensures c.axioms.ensures.is c.used.ensures c.own.ensures c.requires).own_in

pub attach_used-requires-clause-over_own : goal.attach_used-requires-clause-over_own
attach_used-requires-clause-over_own c =
    (problem_moved c.args.self c.self.inside.clauses c.forget_trail.new.self c.axioms.result.now c.used.result.now c.own.result.now c.args.trail.variables c.self.view_is c.forget_trail.ensures c.axioms.ensures.is c.used.ensures c.own.ensures c.requires).over_own

pub attach_used-requires-clause-over : goal.attach_used-requires-clause-over
attach_used-requires-clause-over c = λ more. c.clear.ensures.over c.axioms.result.now more

pub invariant_of-search : goal.invariant_of-search
invariant_of-search c =
    resumed_search c.args.self c.self.inside.clauses c.forget_trail.new.self c.attach_used.new.trail c.axioms.result.now c.used.result.now c.own.result.now c.args.trail.variables c.self.view_is c.forget_trail.ensures c.axioms.ensures.is c.used.ensures
    c.own.ensures c.requires c.self.invariant (c.in_ok-attach_used.ensures.variables ∙ c.clear.ensures.variables) c.in_ok-attach_used.ensures.entries c.in_ok-attach_used.ensures.over c.in_ok-attach_used.ensures.attached
    c.in_ok-attach_used.ensures.known

pub returns-clause-log : goal.returns-clause-log
returns-clause-log c =
    λ log h. has_log _ c.forget_trail.new.self _ log (rw c.forget_trail.ensures (logs_known c.self.inside.clauses 0 log (subst (λ (s : SuspendedView). IsLogOf s.clauses log) (sym c.self.view_is) h.kept)))

pub returns-clause-trues : goal.returns-clause-trues
returns-clause-trues c =
    rw (c.forget_trail.ensures, c.in_ok-attach_used.ensures.entries) (ap (λ (s : SuspendedView). trues_of s.problem.own s.problem.banned []) c.self.view_is)
