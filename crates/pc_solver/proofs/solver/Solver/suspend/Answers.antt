use Rattle.std.proofs.Common.{sym, subst}
use Rattle.pc_solver.specs.InLog.{IsLogOf}
use Rattle.pc_solver.specs.Solver.{SolverView}
use Rattle.pc_solver.specs.inside.Search.{SearchView}
use Rattle.pc_solver.proofs.HasLogLemmas.{suspended_log}
use Rattle.pc_solver.proofs.solver.Solver.suspend.Goals as goal

pub returns-clause-log : goal.returns-clause-log
returns-clause-log c =
    λ log h. suspended_log c.search.inside.clauses log
    (subst (λ (s : SearchView). IsLogOf s.clauses log) (sym c.search.view_is) (subst (λ (s : SolverView). IsLogOf s.clauses log) (sym c.self.view_is) h.kept))
