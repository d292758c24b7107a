use Rattle.std.proofs.Common.{◌∙◌, [], sym, subst}
use Rattle.pc_solver.specs.Solver.{SolverView}
use Rattle.pc_repairs.specs.inside.Asking.{IsAsked}
use Rattle.pc_repairs.proofs.WholeSearch.{asked_new, asked_problem}
use Rattle.pc_repairs.proofs.task.WholeTask.solver.Goals as goal

pub new-requires : goal.new-requires
new-requires c =
    rw (c.deref.ensures.value, c.deref-2.ensures.value)
    (asked_problem c.args.self.book.now c.args.self.ground.now c.args.self.numbers.now c.requires c.whole_is_searched.ensures c.store.result.now c.store.ensures c.variables.result c.variables.ensures)

pub returns : goal.returns
returns c =
    subst (λ (s : SolverView). IsAsked c.args.self.book.now [] s []) (sym (c.show_nothing.ensures ∙ c.prefer_first.ensures))
    (asked_new c.args.self.book.now c.args.self.ground.now c.args.self.numbers.now c.requires
    c.store.result.now c.store.ensures _ (rw (c.deref.ensures.value, c.deref-2.ensures.value) at c.in_ok-solver.ensures.problem) c.in_ok-solver.ensures.blocks c.in_ok-solver.ensures.log)
