use Rattle.std.proofs.Common.{sym, subst, List, Option, Some}
use Rattle.pc_lits.specs.declared.literal.Lit.{Lit}
use Rattle.pc_log.specs.declared.log.StepId.{StepId}
use Rattle.pc_solver.specs.declared.outcome.Outcome.{Outcome}
use Rattle.pc_solver.specs.InLog.{StandsInLog}
use Rattle.pc_solver.specs.inside.Ends.{IsUnsat}
use Rattle.pc_solver.proofs.search.Search.keep_reason.Goals as goal

pub justify-requires-clause-stands : goal.justify-requires-clause-stands
justify-requires-clause-stands c =
    let Stands : StepId → Type 0 = λ id. StandsInLog c.args.self.now.clauses.axioms c.args.log.now id c.args.last.now.clause.items in
    subst (λ (clause : List Lit). StandsInLog c.args.self.now.clauses.axioms c.args.log.now c.in-Unsat.line clause) (sym c.deref.ensures.value)
    (subst (λ (o : Outcome). IsUnsat (Some o) Stands) c.in-Unsat.is (subst (λ (e : Option Outcome). IsUnsat e Stands) c.in-Some.is c.requires.stands))
