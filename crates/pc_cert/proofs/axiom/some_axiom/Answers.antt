use Rattle.std.proofs.Common.{None, Some}
use Rattle.pc_formula.specs.Tree.{cell_of}
use Rattle.pc_cert.proofs.Images.{some_is}
use Rattle.pc_cert.proofs.axiom.some_axiom.Goals as goal

pub returns-in_default : goal.returns-in_default
returns-in_default c = some_is c.args.book.now (cell_of c.args.cell.now) None c.in_default.ensures

pub returns : goal.returns
returns c = some_is c.args.book.now (cell_of c.args.cell.now) (Some c.in-Some.id) c.in-Some.ensures
