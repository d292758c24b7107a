use Rattle.std.proofs.Common.{take, sym, subst, ◌+◌}
use Rattle.std.proofs.lemmas.Result.{err_from_is_err_and}
use Rattle.pc_sortcheck.specs.Declaring.{AreSortsNamed}
use Rattle.pc_sortcheck.specs.DeclarationFaults.{AreSortNamesFault}
use Rattle.pc_sortcheck.proofs.Faults.{handed_on}
use Rattle.pc_sortcheck.proofs.FoundSorts.{sort_fault_at, sorts_more}
use Rattle.pc_sortcheck.proofs.tables.find_sorts.Goals as goal

pub returns-in_err-find_sort : goal.returns-in_err-find_sort
returns-in_err-find_sort c =
    let p = err_from_is_err_and c.from_residual.result c.from_residual.ensures.1 in
    let fault = sort_fault_at c.args.book.now.universe c.args.names.now c.loop-name.name-index c.name-item.result c.loop-name.sorts.items c.in_err-find_sort.field-0.0 c.name-item.is c.loop-name-test.true c.loop-name.invariant c.in_err-find_sort.ensures.told in
    rw p.1 (handed_on (AreSortNamesFault c.args.book.now.universe c.args.names.now) c.in_err-find_sort.field-0.0 p.0 p.2 fault)

pub loop-name-preserved : goal.loop-name-preserved
loop-name-preserved c =
    subst (AreSortsNamed c.args.book.now.universe (take (c.loop-name.name-index + 1) c.args.names.now)) (sym c.in_ok-push.ensures.items)
    (sorts_more c.args.book.now.universe c.args.names.now c.loop-name.name-index c.name-item.result c.loop-name.sorts.items c.in_ok-find_sort.field-0 c.name-item.is c.loop-name-test.true c.loop-name.invariant c.in_ok-find_sort.ensures.told)
