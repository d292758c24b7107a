use Rattle.pc_syntax.specs.Tree.{sheet_of}
use Rattle.pc_sortcheck.proofs.SheetOutcomes.{only_sheet, only_fault}
use Rattle.pc_sortcheck.proofs.sheet.check_sheet.Goals as goal

pub returns-clause-only : goal.returns-clause-only
returns-clause-only c = only_sheet c.trees_have_one_outcome.ensures (sheet_of c.args.tree.now) c.declare_all.result c.declare_all.ensures

pub returns-clause-fault : goal.returns-clause-fault
returns-clause-fault c = only_fault c.trees_have_one_outcome.ensures (sheet_of c.args.tree.now) c.declare_all.result c.declare_all.ensures
