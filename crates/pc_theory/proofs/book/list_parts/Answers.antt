use Rattle.std.proofs.lemmas.Result.{err_from_is_err_and}
use Rattle.pc_theory.proofs.Books.{base_fits, stop_halts}
use Rattle.pc_theory.proofs.book.list_parts.Goals as goal

pub search_parts-requires-clause-base : goal.search_parts-requires-clause-base
search_parts-requires-clause-base c =
    let t = c.args.task in
    base_fits c.divisions_divide.ensures t.book.now t.ground.now t.components.now c.start_parts.new.spent c.in_ok-base.base c.start_parts.new.parts.items c.start_parts.new.solvers.items c.requires.ready c.in_ok-base.ensures.started c.in_ok-base.ensures.many

pub returns-clause-base : goal.returns-clause-base
returns-clause-base c =
    let t = c.args.task in
    base_fits c.divisions_divide.ensures t.book.now t.ground.now t.components.now c.start_parts.new.spent c.in_ok-base.base c.start_parts.new.parts.items c.start_parts.new.solvers.items c.requires.ready c.in_ok-base.ensures.started c.in_ok-base.ensures.many

pub returns-in_err-worlds-clause-halt : goal.returns-in_err-worlds-clause-halt
returns-in_err-worlds-clause-halt c =
    let t = c.args.task in
    let p = err_from_is_err_and c.from_residual-in_err-worlds.result c.from_residual-in_err-worlds.ensures.1 in
    rw (p.1, p.2) (stop_halts t.book.now t.components.now t.budget c.search_parts.new.spent c.search_parts.new.parts.items _ c.in_err-worlds.ensures.stop)

pub returns-clause-bytes : goal.returns-clause-bytes
returns-clause-bytes c = c.in_ok-worlds.ensures.bytes
