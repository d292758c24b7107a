-- What a book, and each of its parts, is searched by.
use Rattle.std.specs.Prelude.{◌≡◌, ℕ, ◌<◌, ◌^◌, Bool, List, [], map, length, Option, Contains}
use Rattle.std.specs.List.{range_with_len}
use Rattle.pc_lits.specs.declared.literal.Var.{Var}
use Rattle.pc_sheet.specs.Sheet.{Sheet}
use Rattle.pc_sheet.specs.Entailment.{cell_sizes}
use Rattle.pc_sheet.specs.WellFormed.{IsWellFormed}
use Rattle.pc_sheet.specs.declared.ids.CellId.{CellId}
use Rattle.pc_parts.specs.Parts.{Part, cell_count, IsDivision}
use Rattle.pc_parts.specs.PartSheets.{entries_on, sheet_of}
use Rattle.pc_parts.specs.Components.{all_cells}
use Rattle.pc_ground.specs.Ground.{clauses}
use Rattle.pc_ground.specs.Variables.{variable_count}
use Rattle.pc_components.specs.PartAxioms.{AreAxiomsOf, AreVariablesOf}
use Rattle.pc_components.specs.View.{number_of, variable_number}
use Rattle.pc_solver.specs.Solver.{Problem, IsProblem}
use Rattle.pc_problem.specs.Searched.{IsSearched}

-- these of the sheet's axioms, over these variables; what the values make true is banned
abbrev pub problem_of : Sheet → List ℕ → List Var → List (Option Bool) → Problem
problem_of sheet used own banned = record { axioms = clauses sheet; used = used; own = own; banned = banned }

-- On these cells, with the whole's entries there, the sheet is searched by these of the whole's axioms, and they are a problem for a solver.
pub record AreSearchedBy (whole sheet : Sheet) (cells : List CellId) (used : List ℕ) (own : List Var) (banned : List (Option Bool)) : Type 0 where
  pub searched : IsSearched sheet cells (cell_sizes whole.universe) (entries_on (map number_of cells) whole.entries) (problem_of whole used own banned)
  pub problem : length (clauses whole) < 2 ^ 32 → IsProblem (variable_count whole) (problem_of whole used own banned)

abbrev pub WholeIsSearched : Type 0
WholeIsSearched = (sheet : Sheet) → IsWellFormed sheet → (cells : List CellId) (used : List ℕ) (own : List Var) → map number_of cells ≡ all_cells sheet.universe → used ≡ range_with_len 0 (length (clauses sheet))
    → map variable_number own ≡ range_with_len 0 (variable_count sheet) → AreSearchedBy sheet sheet cells used own []

abbrev pub PartsAreSearched : Type 0
PartsAreSearched = (sheet : Sheet) → IsWellFormed sheet → (all : List Part) → IsDivision sheet all → (part : Part) → Contains all part → ((c : ℕ) → Contains part.cells c → c < cell_count sheet.universe)
    → (cells : List CellId) (used : List ℕ) (own : List Var) → map number_of cells ≡ part.cells → AreAxiomsOf sheet part used → AreVariablesOf (clauses sheet) used (map variable_number own)
    → AreSearchedBy sheet (sheet_of sheet part) cells used own []
