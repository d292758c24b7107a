-- Sheets that are searched part by part.
use Rattle.std.specs.Prelude.{◌≡◌, ℕ, ◌<◌, ◌^◌, Bool, List, length, map, Option, Some, slice_get, Contains}
use Rattle.std.specs.List.{AllZip}
use Rattle.pc_lits.specs.declared.literal.Var.{Var}
use Rattle.pc_sheet.specs.Sheet.{Sheet}
use Rattle.pc_sheet.specs.WellFormed.{IsWellFormed}
use Rattle.pc_sheet.specs.declared.ids.CellId.{CellId}
use Rattle.pc_ground.specs.Ground.{clauses}
use Rattle.pc_ground.specs.GroundView.{Grounded}
use Rattle.pc_ground.specs.Grounded.{grounded}
use Rattle.pc_ground.specs.Naming.{names_of}
use Rattle.pc_parts.specs.Parts.{Part, cell_count, IsDivision}
use Rattle.pc_parts.specs.Components.{parts_of}
use Rattle.pc_components.specs.PartAxioms.{AreAxiomsOf, AreVariablesOf}
use Rattle.pc_components.specs.View.{Kept, number_of, variable_number, cells_of_part, IsInPart, AreComponentsOf}
use Rattle.pc_kept.specs.ByPolarity.{AreKeptByPolarity}
use Rattle.pc_kept.specs.Components.{AreKeptOf}
use Rattle.pc_reason.specs.Written.{AreOfSheet}
use Rattle.pc_theory.specs.Theories.{rules_alone, IsPartNumbered}

-- the kept ones of the part's axioms, by what is banned
abbrev pub IsKeptOf : Sheet → List (Option Bool) → Part → List ℕ → Type 0
IsKeptOf sheet banned part kept = (used : List ℕ) × AreAxiomsOf sheet part used × AreKeptByPolarity sheet banned used kept

-- exactly the sheet's parts, in order, each with its cells, with axioms that a search takes, and with the variables that these name
pub record AreSearchedParts (sheet : Sheet) (kept : Kept) : Type 0 where
  pub cells : map (map number_of) kept.cells ≡ map cells_of_part (parts_of sheet)
  pub axioms : AllZip (IsKeptOf sheet kept.banned) (parts_of sheet) kept.axioms
  pub variables : AllZip (λ used own. AreVariablesOf (clauses sheet) used (map variable_number own)) kept.axioms kept.variables
  pub many_numbers : length kept.numbers ≡ cell_count sheet.universe
  pub numbers : (c : ℕ) → c < cell_count sheet.universe → (i : ℕ) × (slice_get kept.numbers c ≡ Some i) × IsInPart sheet c i

-- these are the sheet's clauses, and its parts, which divide it, with the axioms that searches take
pub record IsReady (sheet : Sheet) (ground : Grounded) (kept : Kept) : Type 0 where
  pub formed : IsWellFormed sheet
  pub ground_is : ground ≡ grounded sheet
  pub few : length (clauses sheet) < 2 ^ 32
  pub named : AreOfSheet sheet (names_of sheet)
  pub components : AreSearchedParts (rules_alone sheet) kept
  pub whole : Kept
  pub whole_are : AreComponentsOf (rules_alone sheet) whole
  pub chosen : AreKeptOf (rules_alone sheet) whole kept
  pub division : IsDivision sheet (parts_of sheet)

-- the part of that number, with its cells, the axioms that a search takes, and their variables
pub record IsPartAt (sheet : Sheet) (kept : Kept) (i : ℕ) (part : Part) (cells : List CellId) (used : List ℕ) (own : List Var) : Type 0 where
  pub numbered : IsPartNumbered (rules_alone sheet) i part
  pub cells_at : slice_get kept.cells i ≡ Some cells
  pub used_at : slice_get kept.axioms i ≡ Some used
  pub own_at : slice_get kept.variables i ≡ Some own
  pub there : Contains (parts_of sheet) part
  pub within : (c : ℕ) → Contains part.cells c → c < cell_count sheet.universe
  pub cells_are : map number_of cells ≡ part.cells
  pub axioms_are : IsKeptOf sheet kept.banned part used
  pub variables_are : AreVariablesOf (clauses sheet) used (map variable_number own)
