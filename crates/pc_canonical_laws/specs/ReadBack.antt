-- The laws that canonical texts read back as what they were written from.
use Rattle.std.specs.Prelude.{◌≡◌, ℕ, ◌<◌, List, length}
use Rattle.pc_name.specs.Names.{IsName}
use Rattle.pc_sheet.specs.Sheet.{Universe, Statement, NamedStatement, Sheet}
use Rattle.pc_sheet.specs.Nesting.{nesting_of}
use Rattle.pc_sheet.specs.WellFormed.{IsWellFormedUniverse, IsWellFormedRule, IsWellFormed}
use Rattle.pc_sheet.specs.WellSorted.{Variables, IsWellSorted}
use Rattle.pc_formula.specs.Word.{Word, HasWords, nesting}
use Rattle.pc_formula.specs.Grammar.{IsFormula}
use Rattle.pc_formula.specs.Tree.{Formula}
use Rattle.pc_syntax.specs.Line.{IsLine, declares}
use Rattle.pc_syntax.specs.Sheet.{IsSheet}
use Rattle.pc_writer.specs.SheetText.{rule_line, sheet_text}
use Rattle.pc_writer.specs.FormulaText.{statement_text, variable_at}
use Rattle.pc_canonical_laws.specs.Tree.{statement_tree}
use Rattle.pc_canonical_laws.specs.Declarations.{rule_declaration, numbered_declarations}

-- the text splits into words that are the formula, all of them, and that go a level down so often
pub record ReadsAsFormula (text : List ℕ) (f : Formula) (levels : ℕ) : Type 0 where
  pub words : List Word
  pub spells : HasWords text words
  pub is : IsFormula words f
  pub nests : nesting words ≡ levels

-- each enclosing variable has a name
abbrev pub AreVariablesNamed : Variables → Type 0
AreVariablesNamed vs = (k : ℕ) → k < length vs → IsName (variable_at vs k)

-- of each statement that is well sorted in a well-formed universe, under variables that have names
abbrev pub StatementsReadBack : Type 0
StatementsReadBack =
    (u : Universe) (vs : Variables) (s : Statement) → IsWellFormedUniverse u → AreVariablesNamed vs → IsWellSorted u vs s → ReadsAsFormula (statement_text u vs s) (statement_tree u vs s) (nesting_of s)

-- the line of each well-formed rule is read as the rule's declaration
abbrev pub RuleLinesReadBack : Type 0
RuleLinesReadBack =
    (u : Universe) (r : NamedStatement) → IsWellFormedUniverse u → IsWellFormedRule u r → IsLine (rule_line u r) (declares (rule_declaration u r))

-- the text of each well-formed sheet is read as its declarations
abbrev pub SheetsReadBack : Type 0
SheetsReadBack = (s : Sheet) → IsWellFormed s → IsSheet (sheet_text s) (numbered_declarations s)
