use Rattle.std.proofs.Common.{ap, map, sym}
use Rattle.pc_formula.specs.Tree.{value_of, cell_of}
use Rattle.pc_elaborate.proofs.Unique.{names_are_unique}
use Rattle.pc_elaborate.proofs.CellWalk.{cell_told, cell_sort, cell_below}
use Rattle.pc_elaborate.proofs.cells.find_cell.Goals as goal

pub returns-clause-exact : goal.returns-clause-exact
returns-clause-exact c =
    let u = c.args.book.now.universe in
    let unique = names_are_unique u c.well_formed-2.ensures.universe.different in
    cell_told u unique c.cells_are_numbered_in_order.ensures (cell_of c.args.cell.now) c.in_ok-family.family (map value_of c.deref.result.now) c.find_application.result (ap (map value_of) (sym c.deref.ensures.value)) c.in_ok-family.ensures.told c.find_application.ensures

pub returns-clause-sort : goal.returns-clause-sort
returns-clause-sort c = cell_sort c.args.book.now.universe (names_are_unique c.args.book.now.universe c.well_formed-2.ensures.universe.different) c.cells_are_numbered_in_order.ensures (cell_of c.args.cell.now)

pub returns-clause-within : goal.returns-clause-within
returns-clause-within c = cell_below c.args.book.now.universe (names_are_unique c.args.book.now.universe c.well_formed-2.ensures.universe.different) c.cells_are_numbered_in_order.ensures c.in_ok-family.family (map value_of c.deref.result.now) c.find_application.result c.find_application.ensures
