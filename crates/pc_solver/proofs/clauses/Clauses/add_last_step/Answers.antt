use Rattle.pc_solver.proofs.LogLemmas.{last_step}
use Rattle.pc_solver.proofs.StepLemmas.{step_logged}
use Rattle.pc_solver.proofs.clauses.Clauses.add_last_step.Goals as goal

pub returns-clause-log : goal.returns-clause-log
returns-clause-log c =
    step_logged c.args.self.now c.lines_of.new.self _ _ c.args.clause.now _ c.deref.result.now c.args.references.now c.in_ok-lines.ensures.same c.in_ok-lines.ensures.log c.in_ok-lines.ensures.within c.in_ok-lines.ensures.are c.requires.good c.requires.over_own c.requires.short c.deref.ensures.value c.in_ok-id.ensures.ok

pub returns-clause-step : goal.returns-clause-step
returns-clause-step c = last_step c.lines_of.new.log c.add_step.new.self _ _ c.in_ok-id.id c.in_ok-id.ensures.place c.in_ok-id.ensures.ok
