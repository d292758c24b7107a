use Rattle.pc_solver.proofs.SolverLemmas.{trues_none}
use Rattle.pc_solver.proofs.solver.Solver.on.Goals as goal

pub returns-clause-trues : goal.returns-clause-trues
returns-clause-trues c = trues_none c.args.own.now c.start.result c.start.ensures.trues
