use Rattle.pc_formula.specs.Tree.{formula_of}
use Rattle.pc_elaborate.proofs.Unique.{names_are_unique}
use Rattle.pc_elaborate.proofs.FormulaLaws.{no_scope}
use Rattle.pc_elaborate.proofs.FormulaTold.{tells_only, tells_fault, tells_nesting}
use Rattle.pc_elaborate.proofs.formula.check_formula.Goals as goal

pub returns-clause-nested : goal.returns-clause-nested
returns-clause-nested c = tells_nesting c.args.book.now.universe (formula_of c.args.formula.now) c.formula_among.result c.formula_among.ensures

pub returns-clause-only : goal.returns-clause-only
returns-clause-only c = tells_only c.args.book.now.universe (names_are_unique c.args.book.now.universe c.well_formed-2.ensures.universe.different) (formula_of c.args.formula.now) c.formula_among.result c.formula_among.ensures

pub returns-clause-fault : goal.returns-clause-fault
returns-clause-fault c = tells_fault c.args.book.now.universe (names_are_unique c.args.book.now.universe c.well_formed-2.ensures.universe.different) (formula_of c.args.formula.now) c.formula_among.result c.formula_among.ensures

pub formula_among-requires-clause-scope : goal.formula_among-requires-clause-scope
formula_among-requires-clause-scope c = no_scope c.args.book.now.universe
