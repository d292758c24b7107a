use Rattle.std.proofs.Common.{◌∙◌, refl, sym, ap, arith, length, get_or, None, []}
use Rattle.pc_solver.specs.Clauses.{ClausesView}
use Rattle.pc_solver.specs.inside.Banning.{values_in}
use Rattle.pc_solver.proofs.HasLogLemmas.{has_log}
use Rattle.pc_solver.proofs.SolverLemmas.{empty_log, no_lines, new_lone, new_search}
use Rattle.pc_solver.proofs.solver.Solver.start.Goals as goal

pub invariant_of-search : goal.invariant_of-search
invariant_of-search c =
    new_search c.args.axioms.now c.args.used.now c.args.own.now c.args.trail.variables c.in_ok-clauses.clauses c.attach_used.new.trail (ap (λ (w : ClausesView). w.axioms) c.in_ok-clauses.ensures) (ap (λ (w : ClausesView). w.used) c.in_ok-clauses.ensures)
    (ap (λ (w : ClausesView). w.own) c.in_ok-clauses.ensures) (ap (λ (w : ClausesView). w.known) c.in_ok-clauses.ensures)
    (λ k d below. absurd (omega (arith, below, ap (λ (w : ClausesView). length w.more) c.in_ok-clauses.ensures))) (c.in_ok-attach_used.ensures.variables ∙ c.clear.ensures.variables) c.in_ok-attach_used.ensures.entries
    (c.in_ok-attach_used.ensures.over c.in_ok-clauses.clauses.more) c.in_ok-attach_used.ensures.attached c.in_ok-attach_used.ensures.known c.requires.used_in c.requires.own_in c.requires.over_own
    (new_lone c.in_ok-clauses.clauses (values_in c.args.values) c.args.axioms.now c.args.used.now (ap (λ (w : ClausesView). w.banned) c.in_ok-clauses.ensures) (ap (λ (w : ClausesView). w.axioms) c.in_ok-clauses.ensures) (ap (λ (w : ClausesView). w.used) c.in_ok-clauses.ensures)
    (ap (λ (w : ClausesView). w.more) c.in_ok-clauses.ensures) c.requires.lone)

pub returns-clause-log : goal.returns-clause-log
returns-clause-log c =
    has_log _ c.in_ok-clauses.clauses _ [] (empty_log c.in_ok-clauses.clauses (λ n id has. no_lines (length c.args.used.now) n id (sym (ap (λ (w : ClausesView). get_or w.axiom_lines n None) c.in_ok-clauses.ensures) ∙ has))
    (ap (λ (w : ClausesView). w.more) c.in_ok-clauses.ensures))

pub attach_used-requires-clause-over : goal.attach_used-requires-clause-over
attach_used-requires-clause-over c = λ more. c.clear.ensures.over c.args.axioms.now more

pub returns-clause-trues : goal.returns-clause-trues
returns-clause-trues c = rw (c.in_ok-clauses.ensures, c.in_ok-attach_used.ensures.entries) refl
