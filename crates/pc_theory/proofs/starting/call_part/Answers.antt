use Rattle.std.proofs.Common.{refl}
use Rattle.std.proofs.lemmas.Result.{err_from_is_err_and}
use Rattle.pc_theory.proofs.Started.{first_called}
use Rattle.pc_theory.proofs.starting.call_part.Goals as goal

pub first_call-requires-clause-fresh : goal.first_call-requires-clause-fresh
first_call-requires-clause-fresh c = (c.args.number, c.in_ok-solver.ensures.fresh)

pub returns-clause-called : goal.returns-clause-called
returns-clause-called c =
    let fresh = c.in_ok-solver.ensures.fresh in
    let call = c.first_call in
    let kept = c.in_ok-called.ensures in
    first_called c.kept_parts_are_searched.ensures c.args.task.book.now c.args.task.ground.now c.args.task.components.now c.requires.ready c.args.number fresh.cells fresh.used fresh.own fresh.cells_at fresh.used_at fresh.own_at
    _ call.new.solver c.in_ok-solver.solver _ c.new-log.result call.new.log _ call.new.tally _ _ c.args.limit kept.solver kept.number kept.tally kept.logs kept.end fresh.problem call.ensures.problem fresh.no_block call.ensures.blocks call.ensures.log c.new-log.ensures call.ensures.spends refl refl
    refl refl c.in_ok-end.ensures.says

pub returns-in_err-end-clause-refused : goal.returns-in_err-end-clause-refused
returns-in_err-end-clause-refused c =
    let p = err_from_is_err_and c.from_residual-in_err-end.result c.from_residual-in_err-end.ensures.1 in
    rw (p.1, p.2) c.in_err-end.ensures.refused
