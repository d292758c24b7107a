-- The laws that the canonical declarations of a book give that book, and that the tree of each statement stands for it.
use Rattle.std.specs.Prelude.{◌≡◌, ℕ, List, [], map}
use Rattle.pc_sheet.specs.Sheet.{Universe, Statement, Sheet, empty_sheet}
use Rattle.pc_sheet.specs.WellFormed.{IsWellFormedUniverse, IsWellFormed}
use Rattle.pc_sheet.specs.WellSorted.{Variables, IsWellSorted}
use Rattle.pc_syntax.specs.Tree.{Declared}
use Rattle.pc_writer.specs.SheetText.{sheet_text}
use Rattle.pc_elaborate.specs.Elaboration.{IsStatement}
use Rattle.pc_sortcheck.specs.Declaring.{DeclareAll, IsSheetOf, ReadsAs}
use Rattle.pc_canonical_laws.specs.Tree.{statement_tree}
use Rattle.pc_canonical_laws.specs.Declarations.{universe_declarations, rule_declaration, entry_declarations, declarations_of}

-- of each statement that is well sorted under the enclosing variables
abbrev pub StatementsStandForThemselves : Type 0
StatementsStandForThemselves = (u : Universe) (vs : Variables) (s : Statement) → IsWellSorted u vs s → IsStatement u vs (statement_tree u vs s) s

-- what a numbered line declares
abbrev pub declared_in : ℕ × Declared → Declared
declared_in d = d.1

-- the universe without a rule and without an entry
abbrev pub universe_alone : Universe → Sheet
universe_alone u = record { universe = u; rules = []; entries = [] }

-- the rules without an entry
abbrev pub without_entries : Sheet → Sheet
without_entries s = record s { entries = [] }

-- the declarations of each well-formed universe, however they are numbered, give it
abbrev pub UniverseIsDeclared : Type 0
UniverseIsDeclared =
    (u : Universe) → IsWellFormedUniverse u → (ds : List (ℕ × Declared)) → map declared_in ds ≡ universe_declarations u → DeclareAll empty_sheet ds (universe_alone u)

-- those of a book's rules add these to its universe
abbrev pub RulesAreDeclared : Type 0
RulesAreDeclared =
    (s : Sheet) → IsWellFormed s → (ds : List (ℕ × Declared)) → map declared_in ds ≡ map (rule_declaration s.universe) s.rules → DeclareAll (universe_alone s.universe) ds (without_entries s)

-- those of its entries add these to its rules
abbrev pub EntriesAreDeclared : Type 0
EntriesAreDeclared =
    (s : Sheet) → IsWellFormed s → (ds : List (ℕ × Declared)) → map declared_in ds ≡ entry_declarations s.universe s.entries → DeclareAll (without_entries s) ds s

-- and all of them together give the book
abbrev pub DeclarationsGiveTheSheet : Type 0
DeclarationsGiveTheSheet = (s : Sheet) → IsWellFormed s → (ds : List (ℕ × Declared)) → map declared_in ds ≡ declarations_of s → IsSheetOf ds s

-- the canonical text of each sheet reads as that sheet
abbrev pub TextsReadBack : Type 0
TextsReadBack = (s : Sheet) → IsWellFormed s → ReadsAs (sheet_text s) s
