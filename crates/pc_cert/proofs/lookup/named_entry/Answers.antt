use Rattle.pc_formula.specs.Tree.{cell_of, value_of}
use Rattle.pc_cert.specs.Claims.{IsPairNamed}
use Rattle.pc_cert.specs.Trees.{pair_of}
use Rattle.pc_cert.proofs.Found.{none_is, cell_never, value_never, entry_is}
use Rattle.pc_cert.proofs.lookup.named_entry.Goals as goal

pub returns-in_default : goal.returns-in_default
returns-in_default c =
    none_is (IsPairNamed c.args.book.now.universe (pair_of c.args.pair.now))
    (λ e is. cell_never c.args.book.now.universe (cell_of c.args.pair.now.cell) c.find_cell.result _ c.find_cell.ensures.exact c.find_cell.ensures.sort c.in_default.is e.cell is.sort is.cell)

pub returns-in_default-find_value : goal.returns-in_default-find_value
returns-in_default-find_value c =
    none_is (IsPairNamed c.args.book.now.universe (pair_of c.args.pair.now))
    (λ e is. value_never c.args.book.now.universe (cell_of c.args.pair.now.cell) c.find_cell.result c.in-Ok.cell c.find_cell.ensures.exact c.find_cell.ensures.sort c.in-Ok.is (value_of c.args.pair.now.value) c.find_value.result _ c.find_value.ensures.exact c.in_default-find_value.is e.cell is.sort e.value is.cell is.value)

pub returns : goal.returns
returns c = entry_is c.args.book.now.universe (cell_of c.args.pair.now.cell) c.find_cell.result c.in-Ok.cell c.find_cell.ensures.exact c.find_cell.ensures.sort c.in-Ok.is (value_of c.args.pair.now.value) c.find_value.result c.in-Ok-find_value.value c.find_value.ensures.exact c.in-Ok-find_value.is
