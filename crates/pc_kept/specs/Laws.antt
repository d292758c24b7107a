-- What kept axioms are worth.
use Rattle.std.specs.Prelude.{◌≡◌, ℕ, ◌<◌, Bool, List, sum, map, Option, AllPairs, Contains}
use Rattle.pc_sheet.specs.Sheet.{Sheet}
use Rattle.pc_sheet.specs.Entailment.{cell_sizes}
use Rattle.pc_sheet.specs.WellFormed.{IsWellFormed}
use Rattle.pc_sheet.specs.declared.ids.CellId.{CellId}
use Rattle.pc_parts.specs.Parts.{Part, IsDivision, cell_count}
use Rattle.pc_parts.specs.PartSheets.{sheet_of}
use Rattle.pc_ground.specs.Ground.{clauses}
use Rattle.pc_ground.specs.Naming.{names_of}
use Rattle.pc_components.specs.PartAxioms.{AreAxiomsOf, AreVariablesOf}
use Rattle.pc_components.specs.View.{number_of, variable_number}
use Rattle.pc_problem.specs.Laws.{AreSearchedBy}
use Rattle.pc_lits.specs.declared.literal.Var.{Var}
use Rattle.pc_kept.specs.ByPolarity.{AreKeptByPolarity}
use Rattle.pc_kept.specs.Stored.{AreKeptStored, AreUnnamedStored}

-- what is kept by a sheet's clauses, names and number of pairs is kept of the sheet
abbrev pub KeptByWhatIsStored : Type 0
KeptByWhatIsStored =
    (sheet : Sheet) (banned : List (Option Bool)) (used kept : List ℕ) → AllPairs (λ j k. j < k) used
    → AreKeptStored (sum (cell_sizes sheet.universe)) (clauses sheet) (names_of sheet) banned used kept
    → AreUnnamedStored (clauses sheet) (names_of sheet) banned kept → AreKeptByPolarity sheet banned used kept

-- A part is searched on its cells by its kept axioms, over the variables that these name; of each axiom's literals at most one has a banned
-- negation.
abbrev pub KeptPartsAreSearched : Type 0
KeptPartsAreSearched = (sheet : Sheet) → IsWellFormed sheet → (all : List Part) → IsDivision sheet all → (part : Part) → Contains all part → ((c : ℕ) → Contains part.cells c → c < cell_count sheet.universe)
    → (cells : List CellId) (used kept : List ℕ) (own : List Var) (banned : List (Option Bool)) → map number_of cells ≡ part.cells → AreAxiomsOf sheet part used → AreKeptByPolarity sheet banned used kept
    → AreVariablesOf (clauses sheet) kept (map variable_number own) → AreSearchedBy sheet (sheet_of sheet part) cells kept own banned
