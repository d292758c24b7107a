use Rattle.std.proofs.Common.{◌∙◌, sym, subst}
use Rattle.std.proofs.lemmas.Result.{err_from_is_err_and}
use Rattle.pc_solver.specs.Solver.{HasLog}
use Rattle.pc_theory.proofs.Started.{first_empty}
use Rattle.pc_theory.proofs.starting.first_call.Goals as goal

pub solve-requires-clause-log : goal.solve-requires-clause-log
solve-requires-clause-log c = subst (HasLog c.args.solver.now) (sym c.requires.log) c.requires.fresh.1.no_line

pub refuted-requires-clause-empty : goal.refuted-requires-clause-empty
refuted-requires-clause-empty c =
    let fresh = c.requires.fresh.1 in
    first_empty c.kept_parts_are_searched.ensures c.args.task.book.now c.args.task.ground.now c.args.task.components.now c.requires.ready c.requires.fresh.0 fresh.cells fresh.used fresh.own fresh.cells_at fresh.used_at fresh.own_at
    c.own_lines_are_named.ensures c.solve.new.self c.solve.new.log c.in-Unsat.last (c.solve.ensures.problem ∙ fresh.problem) (c.solve.ensures.blocks ∙ fresh.no_block) c.solve.ensures.log c.in-Unsat.ensures.answer.0 c.in-Unsat.ensures.answer.1

pub returns-in_err-derivation-in-Unsat-clause-refused : goal.returns-in_err-derivation-in-Unsat-clause-refused
returns-in_err-derivation-in-Unsat-clause-refused c =
    let p = err_from_is_err_and c.from_residual.result c.from_residual.ensures.1 in
    rw (p.1, p.2) tt

pub returns-in-Sat-clause-says : goal.returns-in-Sat-clause-says
returns-in-Sat-clause-says c = c.in-Sat.ensures.answer.axioms_true

pub returns-in-Spent-clause-says : goal.returns-in-Spent-clause-says
returns-in-Spent-clause-says c = c.in-Spent.ensures.answer
