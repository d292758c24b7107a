-- What the axioms of a part say.
use Rattle.std.specs.Prelude.{◌≡◌, ◌≢◌, ℕ, ◌<◌, List, [], length, map, slice_index_or, All, AllPairs, Contains}
use Rattle.std.specs.List.{range_with_len}
use Rattle.pc_lits.specs.declared.literal.Lit.{Lit}
use Rattle.pc_lits.specs.declared.literal.Var.{Var}
use Rattle.pc_sheet.specs.Sheet.{Sheet}
use Rattle.pc_sheet.specs.WellFormed.{IsWellFormed}
use Rattle.pc_parts.specs.Parts.{Part, AreParts, IsDivision}
use Rattle.pc_parts.specs.PartSheets.{sheet_of}
use Rattle.pc_parts.specs.Components.{all_cells}
use Rattle.pc_ground.specs.Ground.{clauses}
use Rattle.pc_ground.specs.Variables.{variable_count}
use Rattle.pc_components.specs.PartAxioms.{AreAxiomsOf, AreVariablesOf}
use Rattle.pc_components.specs.Used.{AreFor, Decide}
use Rattle.pc_components.specs.View.{variable_number}

-- they stand for the part's sheet on its cells
abbrev pub PartAxiomsAreForTheirParts : Type 0
PartAxiomsAreForTheirParts = (sheet : Sheet) → IsWellFormed sheet → (all : List Part) → IsDivision sheet all → (part : Part) → Contains all part
    → (used : List ℕ) → AreAxiomsOf sheet part used → AreFor (sheet_of sheet part) part.cells (clauses sheet) used

-- all axioms stand for the sheet on all cells
abbrev pub AxiomsAreForTheirSheet : Type 0
AxiomsAreForTheirSheet = (sheet : Sheet) → IsWellFormed sheet → AreFor sheet (all_cells sheet.universe) (clauses sheet) (range_with_len 0 (length (clauses sheet)))

-- what stands for a sheet on some cells decides consistency and entailment there
abbrev pub ClausesDecide : Type 0
ClausesDecide = (sheet : Sheet) (cells : List ℕ) (store : List (List Lit)) (used : List ℕ) → AreFor sheet cells store used → Decide sheet cells store used

-- each part has a variable that no other part has
abbrev pub PartsHaveTheirOwnVariables : Type 0
PartsHaveTheirOwnVariables = (sheet : Sheet) → IsWellFormed sheet → (all : List Part) → AreParts sheet all → (part : Part) → Contains all part
    → (used own : List ℕ) → AreAxiomsOf sheet part used → AreVariablesOf (clauses sheet) used own
    → (x : ℕ) × Contains own x × ((other : Part) → Contains all other → (others : List ℕ) (theirs : List ℕ) → AreAxiomsOf sheet other others → AreVariablesOf (clauses sheet) others theirs → Contains theirs x → other ≡ part)

-- the axioms of a part are in the store, and its variables are variables of the ground
abbrev pub PartsAreInTheirGround : Type 0
PartsAreInTheirGround = (sheet : Sheet) (part : Part) (used own : List ℕ) → AreAxiomsOf sheet part used → AreVariablesOf (clauses sheet) used own
    → ((k : ℕ) → Contains used k → k < length (clauses sheet)) × ((x : ℕ) → Contains own x → x < variable_count sheet)

-- What a solver asks of a problem: the used numbers are places among the clauses, own variables differ and are the ground's, and the used clauses are over own variables alone.
pub record AreSolvable (sheet : Sheet) (used : List ℕ) (own : List Var) : Type 0 where
  pub used_in : All (λ n. n < length (clauses sheet)) used
  pub own_in : All (λ v. v.0 < variable_count sheet) own
  pub own_differ : AllPairs (λ v w. v ≢ w) own
  pub over_own : All (λ n. All (λ l. Contains own l.variable) (slice_index_or (clauses sheet) n [])) used

-- a part's axioms and variables are such a problem
abbrev pub PartsAreSolvable : Type 0
PartsAreSolvable = (sheet : Sheet) (part : Part) (used : List ℕ) (own : List Var) → AreAxiomsOf sheet part used → AreVariablesOf (clauses sheet) used (map variable_number own) → AreSolvable sheet used own
