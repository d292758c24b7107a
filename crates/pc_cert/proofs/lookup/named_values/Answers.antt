use Rattle.pc_formula.specs.Tree.{cell_of, value_of}
use Rattle.pc_cert.specs.Meaning.{AreValuesNamed}
use Rattle.pc_cert.proofs.Found.{none_are, cell_never, value_never, values_are}
use Rattle.pc_cert.proofs.lookup.named_values.Goals as goal

pub returns-in_default : goal.returns-in_default
returns-in_default c =
    none_are (AreValuesNamed c.args.book.now.universe (cell_of c.args.cell.now) (value_of c.args.first.now) (value_of c.args.second.now))
    (λ id v w is. cell_never c.args.book.now.universe (cell_of c.args.cell.now) c.find_cell.result _ c.find_cell.ensures.exact c.find_cell.ensures.sort c.in_default.is id is.sort is.cell)

pub returns-in_default-find_value : goal.returns-in_default-find_value
returns-in_default-find_value c =
    none_are (AreValuesNamed c.args.book.now.universe (cell_of c.args.cell.now) (value_of c.args.first.now) (value_of c.args.second.now))
    (λ id v w is. value_never c.args.book.now.universe (cell_of c.args.cell.now) c.find_cell.result c.in-Ok.id c.find_cell.ensures.exact c.find_cell.ensures.sort c.in-Ok.is (value_of c.args.first.now) c.find_value.result _ c.find_value.ensures.exact c.in_default-find_value.is id is.sort v is.cell is.first_value)

pub returns-in_default-find_value-2 : goal.returns-in_default-find_value-2
returns-in_default-find_value-2 c =
    none_are (AreValuesNamed c.args.book.now.universe (cell_of c.args.cell.now) (value_of c.args.first.now) (value_of c.args.second.now))
    (λ id v w is. value_never c.args.book.now.universe (cell_of c.args.cell.now) c.find_cell.result c.in-Ok.id c.find_cell.ensures.exact c.find_cell.ensures.sort c.in-Ok.is (value_of c.args.second.now) c.find_value-2.result _ c.find_value-2.ensures.exact c.in_default-find_value-2.is id is.sort w is.cell is.second_value)

pub returns : goal.returns
returns c = values_are c.args.book.now.universe (cell_of c.args.cell.now) c.find_cell.result c.in-Ok.id c.find_cell.ensures.exact c.find_cell.ensures.sort c.in-Ok.is (value_of c.args.first.now) (value_of c.args.second.now) c.find_value.result c.find_value-2.result c.in-Ok-find_value.v c.in-Ok-find_value-2.w c.find_value.ensures.exact c.in-Ok-find_value.is c.find_value-2.ensures.exact c.in-Ok-find_value-2.is
