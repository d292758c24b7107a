-- How many bytes the lines may count for that are kept of searches, by the numbers alone that are told of them.
use Rattle.std.specs.Prelude.{◌≡◌, ℕ, ◌+◌, ◌*◌, ◌≤◌, [], ◌∷◌, length, sum_by, Option}
use Rattle.pc_sheet.specs.Sheet.{Sheet}
use Rattle.pc_sheet.specs.WellFormed.{IsWellFormed}
use Rattle.pc_sheet.specs.declared.ids.CellId.{CellId}
use Rattle.pc_ground.specs.Variables.{variable_count}
use Rattle.pc_components.specs.View.{Kept, AreComponentsOf}
use Rattle.pc_search.specs.Found.{search_bytes}
use Rattle.pc_theory.specs.KeptBytes.{spent_bytes}
use Rattle.pc_theory.specs.Spendings.{IsSpendingOf, LearnsWithin}
use Rattle.pc_theory.specs.Theories.{rules_alone}
use Rattle.pc_theory.specs.declared.spending.PartSpending.{PartSpending}
use Rattle.pc_theory.specs.declared.spending.Spending.{Spending}

-- No more is kept of the searches of touched parts than of one search may be that has the axioms of all parts and all the sheet's
-- variables, with a step for each placed literal and two for each call. Parts share the axioms above their pieces, each of which counts
-- here once for each of its parts.
abbrev pub SpentBytesAreBounded : Type 0
SpentBytesAreBounded = (sheet : Sheet) → IsWellFormed sheet → (touched : Option CellId) (kept : Kept) → AreComponentsOf (rules_alone sheet) kept
    → (s : Spending) → IsSpendingOf sheet touched s → LearnsWithin s.tally
    → spent_bytes kept s ≤ search_bytes (sum_by length kept.axioms) (variable_count sheet) (s.tally.placed + 2 * s.tally.calls)

-- the first of two parts has two axioms and two variables, the second three and one
abbrev pub unlike_parts : Kept
unlike_parts = record {
  cells = [];
  axioms = (0 ∷ 1 ∷ []) ∷ (0 ∷ 2 ∷ 3 ∷ []) ∷ [];
  variables = (record { 0 = 0 } ∷ record { 0 = 1 } ∷ []) ∷ (record { 0 = 2 } ∷ []) ∷ [];
  numbers = [];
  banned = [];
}

-- so many clauses were learned and calls made for the part of that number
pub record IsOfWork (s : PartSpending) (part learned calls : ℕ) : Type 0 where
  pub number : s.part ≡ part
  pub learned_is : s.tally.learned ≡ learned
  pub calls_is : s.tally.calls ≡ calls

pub record WorkedBytes : Type 0 where
  -- a clause is learned in the first part by two calls: two axioms, and three steps of 24 and twice 8
  pub one_part : (s : Spending) (p : PartSpending) → s.parts.items ≡ p ∷ [] → IsOfWork p 0 1 2 → spent_bytes unlike_parts s ≡ 152
  -- and none in the second by one call: three axioms, and a step of 24 and 8
  pub both_parts : (s : Spending) (p q : PartSpending) → s.parts.items ≡ p ∷ q ∷ [] → IsOfWork p 0 1 2 → IsOfWork q 1 0 1 → spent_bytes unlike_parts s ≡ 232
  -- by the numbers alone, where five literals were placed by three calls: five axioms, and eleven steps of 24 and three times 8
  pub by_counts : search_bytes (sum_by length unlike_parts.axioms) 3 (5 + 2 * 3) ≡ 608
