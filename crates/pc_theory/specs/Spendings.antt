-- What a search spends, part by part.
use Rattle.std.specs.Prelude.{◌≡◌, ◌≢◌, ℕ, ◌+◌, ◌*◌, ◌≤◌, List, [], length, sum_by, All, AllPairs, Contains, Option, None, Some, slice_get}
use Rattle.pc_lits.specs.declared.literal.Var.{Var}
use Rattle.pc_lits.specs.declared.tally.Tally.{Tally}
use Rattle.pc_log.specs.Lines.{LogLine}
use Rattle.pc_sheet.specs.Sheet.{Sheet}
use Rattle.pc_sheet.specs.Entailment.{cell_sizes}
use Rattle.pc_sheet.specs.MaximalSets.{AreRulesConsistent, ListsExactly, IsMaximalSet}
use Rattle.pc_sheet.specs.declared.ids.CellId.{CellId}
use Rattle.pc_sheet.specs.declared.ids.Entry.{Entry}
use Rattle.pc_parts.specs.Parts.{Part}
use Rattle.pc_parts.specs.PartSheets.{sheet_of}
use Rattle.pc_components.specs.View.{Kept, AreComponentsOf}
use Rattle.pc_problem.specs.Laws.{problem_of}
use Rattle.pc_solver.specs.Spending.{marked}
use Rattle.pc_worlds.specs.Parts.{IsListingLog}
use Rattle.pc_theory.specs.Theories.{rules_alone, IsPartNumbered}
use Rattle.pc_theory.specs.Targets.{target_count}
use Rattle.pc_theory.specs.declared.spending.PartSpending.{PartSpending}
use Rattle.pc_theory.specs.declared.spending.Spending.{Spending}

-- ---- one part

-- a maximal set of the part; there is none where the rules are inconsistent
abbrev pub IsSetOf : Sheet → Part → List Entry → Type 0
IsSetOf sheet part set = AreRulesConsistent sheet × IsMaximalSet (sheet_of sheet part) set

-- at most so many calls as its maximal sets, its targets and its entries allow
abbrev pub AreFewCalls : Sheet → Part → ℕ → Type 0
AreFewCalls sheet part calls =
    (sets : List (List Entry)) → ListsExactly (List Entry) (IsSetOf sheet part) sets
    → calls ≤ length sets * (target_count (cell_sizes sheet.universe) part.cells + 1) * (length (sheet_of sheet part).entries + 2) + 2

-- A lawful log of the part's axioms and variables, each of whose blocks is the clause of the part's entries that aren't in some maximal set.
abbrev pub IsGoodLog : Sheet → Part → List ℕ → List Var → List LogLine → Type 0
IsGoodLog sheet part used own log = IsListingLog (cell_sizes sheet.universe) (sheet_of sheet part).entries (IsSetOf sheet part) (problem_of sheet used own []) log

-- on a part with these axioms and variables
pub record IsPartSpending (sheet : Sheet) (part : Part) (used : List ℕ) (own : List Var) (s : PartSpending) : Type 0 where
  pub placed : s.tally.placed ≤ length own * (s.tally.learned + s.tally.calls)
  pub few_calls : AreFewCalls sheet part s.tally.calls
  pub few_logs : length s.logs.items ≤ 3
  pub learned : sum_by marked s.logs.items ≡ s.tally.learned
  pub logs : All (IsGoodLog sheet part used own) s.logs.items

-- what each search keeps, lawful or not: no more clauses were learned than literals placed and calls made
abbrev pub LearnsWithin : Tally → Type 0
LearnsWithin tally = tally.learned ≤ tally.placed + tally.calls

-- ---- all parts

-- the part has the cell; where there is none, any part
abbrev pub IsTouched : Option CellId → Part → Type 0
IsTouched None part = Unit {0}
IsTouched (Some c) part = Contains part.cells c.0

-- the part of that number is touched, and this was spent on it
pub record IsSpentOn (sheet : Sheet) (touched : Option CellId) (kept : Kept) (s : PartSpending) : Type 0 where
  pub part : Part
  pub used : List ℕ
  pub own : List Var
  pub numbered : IsPartNumbered (rules_alone sheet) s.part part
  pub used_are : slice_get kept.axioms s.part ≡ Some used
  pub own_are : slice_get kept.variables s.part ≡ Some own
  pub is_touched : IsTouched touched part
  pub spent : IsPartSpending sheet part used own s

abbrev pub placed_of : PartSpending → ℕ
placed_of s = s.tally.placed

abbrev pub learned_of : PartSpending → ℕ
learned_of s = s.tally.learned

abbrev pub calls_of : PartSpending → ℕ
calls_of s = s.tally.calls

-- Each is of one touched part of the sheet, no part stands twice, and the tally is their sum.
pub record IsSpendingOf (sheet : Sheet) (touched : Option CellId) (s : Spending) : Type 0 where
  pub kept : Kept
  pub are : AreComponentsOf (rules_alone sheet) kept
  pub placed : s.tally.placed ≡ sum_by placed_of s.parts.items
  pub learned : s.tally.learned ≡ sum_by learned_of s.parts.items
  pub calls : s.tally.calls ≡ sum_by calls_of s.parts.items
  pub each : All (IsSpentOn sheet touched kept) s.parts.items
  pub different : AllPairs (λ x y. x.part ≢ y.part) s.parts.items

-- ... up to its limit
pub record IsLawful (sheet : Sheet) (touched : Option CellId) (limit : ℕ) (s : Spending) : Type 0 where
  pub of_sheet : IsSpendingOf sheet touched s
  pub limited : s.tally.limit ≡ limit
  pub all_placed : s.tally.placed ≡ limit
