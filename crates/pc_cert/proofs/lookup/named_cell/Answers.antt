use Rattle.pc_formula.specs.Tree.{cell_of}
use Rattle.pc_elaborate.specs.Elaboration.{IsCellNamed}
use Rattle.pc_cert.proofs.Found.{none_is, cell_never, cell_is}
use Rattle.pc_cert.proofs.lookup.named_cell.Goals as goal

pub returns-in_default : goal.returns-in_default
returns-in_default c = none_is (IsCellNamed c.args.book.now.universe (cell_of c.args.cell.now)) (λ id is. cell_never _ _ _ _ c.find_cell.ensures.exact c.find_cell.ensures.sort c.in_default.is id is.0 is.1)

pub returns : goal.returns
returns c = cell_is _ _ _ c.in-Ok.id c.find_cell.ensures.exact c.find_cell.ensures.sort c.in-Ok.is
