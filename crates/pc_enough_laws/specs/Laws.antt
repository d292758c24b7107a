-- That a search within enough budget ends.
use Rattle.std.specs.Prelude.{◌≡◌, ℕ, ◌+◌, ◌*◌, ◌<◌, ◌≤◌, ◌^◌, List, length, Contains, Option, Some, slice_get}
use Rattle.std.specs.List.{AllZip}
use Rattle.pc_lits.specs.declared.literal.Lit.{Lit}
use Rattle.pc_lits.specs.declared.literal.Var.{Var}
use Rattle.pc_lits.specs.declared.tally.Tally.{Tally}
use Rattle.pc_log.specs.Lines.{LogLine}
use Rattle.pc_sheet.specs.Sheet.{Sheet}
use Rattle.pc_sheet.specs.MaximalSets.{ListsExactly}
use Rattle.pc_sheet.specs.WellFormed.{IsWellFormed}
use Rattle.pc_sheet.specs.declared.ids.CellId.{CellId}
use Rattle.pc_sheet.specs.declared.ids.Entry.{Entry}
use Rattle.pc_ground.specs.Variables.{variable_count}
use Rattle.pc_parts.specs.Parts.{Part}
use Rattle.pc_parts.specs.Components.{parts_of}
use Rattle.pc_parts.specs.PartSheets.{sheet_of}
use Rattle.pc_components.specs.View.{Kept, AreComponentsOf}
use Rattle.pc_enough_laws.specs.Clauses.{IsPlain}
use Rattle.pc_enough_laws.specs.Amounts.{enough_of}
use Rattle.pc_solver.specs.Solver.{Problem, IsLawfulLog, clauses_used}
use Rattle.pc_solver.specs.Spending.{marked}
use Rattle.pc_theory.specs.Spendings.{IsSetOf, AreFewCalls, IsSpentOn, IsSpendingOf, IsLawful, placed_of}
use Rattle.pc_theory.specs.Theories.{rules_alone, IsPartNumbered}
use Rattle.pc_theory.specs.WholeSpendings.{IsWholeSpending, IsSpentWhole}
use Rattle.pc_theory.specs.declared.spending.PartSpending.{PartSpending}
use Rattle.pc_theory.specs.declared.spending.Spending.{Spending}
use Rattle.pc_enough_laws.specs.Enough.{amounts_of, enough_for, enough_for_all, IsMostCalls, AreBounded}

-- a lawful log of a problem with an axiom without a literal and its negation has fewer learned clauses than there are choices for its variables
abbrev pub LawfulLogsLearnFew : Type 0
LawfulLogsLearnFew = (p : Problem) (given : List Lit) → Contains (clauses_used p) given → IsPlain p.own given
    → (blocks : List (List Lit)) (log : List LogLine) → IsLawfulLog p blocks log → marked log < 3 ^ length p.own

-- a part has a list of its maximal sets, and no more than two to the number of its entries
abbrev pub MaximalSetsAreFew : Type 0
MaximalSetsAreFew = (sheet : Sheet) → IsWellFormed sheet → (part : Part)
    → (sets : List (List Entry)) × ListsExactly (List Entry) (IsSetOf sheet part) sets × (length sets ≤ 2 ^ length (sheet_of sheet part).entries)

-- what is spent on a part is less than enough for it
abbrev pub PartsSpendLess : Type 0
PartsSpendLess = (sheet : Sheet) → IsWellFormed sheet → (touched : Option CellId) (kept : Kept) → AreComponentsOf (rules_alone sheet) kept
    → (s : PartSpending) → (on : IsSpentOn sheet touched kept s) → placed_of s < enough_of (amounts_of sheet on.part on.own)

-- a lawful spending within a limit that isn't 0 is within less than enough for the touched parts
abbrev pub LawfulSpendingsAreOfLess : Type 0
LawfulSpendingsAreOfLess = (sheet : Sheet) → IsWellFormed sheet → (touched : Option CellId) (limit : ℕ) → 1 ≤ limit → (s : Spending)
    → IsLawful sheet touched limit s → (kept : Kept) → AreComponentsOf (rules_alone sheet) kept → limit < enough_for sheet touched kept

-- the touched parts need no more than the whole sheet
abbrev pub PartsNeedNoMore : Type 0
PartsNeedNoMore = (sheet : Sheet) → IsWellFormed sheet → (touched : Option CellId) (kept : Kept) → AreComponentsOf (rules_alone sheet) kept
    → enough_for sheet touched kept ≤ enough_for_all sheet

-- within a limit that is enough for the whole sheet, and isn't 0, no spending is lawful
abbrev pub EnoughIsNeverSpent : Type 0
EnoughIsNeverSpent = (sheet : Sheet) → IsWellFormed sheet → (touched : Option CellId) (limit : ℕ) → 1 ≤ limit → enough_for_all sheet ≤ limit
    → (s : Spending) → ¬ IsLawful sheet touched limit s

-- The counts of what is spent on touched parts are bounded, whether the limit is reached or not.
abbrev pub CountsAreBounded : Type 0
CountsAreBounded = (sheet : Sheet) → IsWellFormed sheet → (touched : Option CellId) (s : Spending) → (spent : IsSpendingOf sheet touched s)
    → (most_calls : List ℕ) → AllZip (IsMostCalls sheet) (parts_of (rules_alone sheet)) most_calls → AreBounded sheet touched spent.kept most_calls s.tally

-- What an edit of an entry spends is spent on the cell's part alone, whose variables and maximal sets bound it.
abbrev pub EntryEditsSpendOnOnePart : Type 0
EntryEditsSpendOnOnePart = (sheet : Sheet) → IsWellFormed sheet → (c : CellId) (s : Spending) → (spent : IsSpendingOf sheet (Some c) s)
    → (i : ℕ) (part : Part) (own : List Var) → IsPartNumbered (rules_alone sheet) i part → Contains part.cells c.0 → slice_get spent.kept.variables i ≡ Some own
    → (s.tally.placed ≤ length own * (s.tally.learned + s.tally.calls)) × AreFewCalls sheet part s.tally.calls

-- ---- a whole sheet

-- on a whole sheet no more clauses are learned than three to one more than the number of its pairs and nodes
abbrev pub WholeSpendingsLearnFew : Type 0
WholeSpendingsLearnFew = (sheet : Sheet) (logs : List (List LogLine)) (tally : Tally) → IsWholeSpending sheet logs tally → tally.learned ≤ 3 ^ (variable_count sheet + 1)

-- within a limit that is enough for so many calls, and isn't 0, no spending of at most so many calls on a whole sheet is lawful
abbrev pub EnoughIsNeverSpentWhole : Type 0
EnoughIsNeverSpentWhole = (sheet : Sheet) → IsWellFormed sheet → (most : ℕ) (logs : List (List LogLine)) (tally : Tally) → tally.calls ≤ most → 1 ≤ tally.limit
    → variable_count sheet * (3 ^ (variable_count sheet + 1) + most) ≤ tally.limit → ¬ IsSpentWhole sheet logs tally
