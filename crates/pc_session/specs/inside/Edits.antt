-- What was found of an edit of a cell's entries, before it is put in place.
use Rattle.std.specs.Prelude.{◌≡◌, ◌⊎◌, ℕ, ◌+◌, ◌≤◌, Bool, List, Option, Some, Contains}
use Rattle.pc_sheet.specs.Sheet.{Sheet}
use Rattle.pc_sheet.specs.declared.ids.CellId.{CellId}
use Rattle.pc_sheet.specs.declared.ids.Entry.{Entry}
use Rattle.pc_sheet.specs.declared.ids.Target.{Target}
use Rattle.pc_parts.specs.Parts.{Part}
use Rattle.pc_reason.specs.Reasons.{Justification}
use Rattle.pc_reason.specs.Targets.{IsTargetIn}
use Rattle.pc_justify_laws.specs.Reasons.{IsRowFor}
use Rattle.pc_justify_laws.specs.Edits.{HasNone, edited, MayStay}
use Rattle.pc_cache.specs.Rows.{TargetRow, bytes_of_rows, row_of, row_after}
use Rattle.pc_search.specs.Found.{steps_in}
use Rattle.pc_search.specs.Parts.{AreWorldsOf}
use Rattle.pc_theory.specs.Theories.{rules_alone, IsPartNumbered}
use Rattle.pc_theory.specs.Spendings.{IsSpendingOf, LearnsWithin}
use Rattle.pc_session.specs.declared.edit.Edit.{Edit}

-- what is kept of the target after the changes
abbrev pub after : List TargetRow → List TargetRow → Target → Option Justification
after rows changes t = row_after changes t (row_of rows t)

-- what the changes are, where the part has these cells
pub record AreChanges (sheet : Sheet) (rows : List TargetRow) (gone : Entry → Bool) (added : List Entry) (cells : List ℕ) (changes : List TargetRow) (most : ℕ) : Type 0 where
  -- a target was searched again, or keeps what it had, which may stay
  pub each : (t : Target) → IsTargetIn sheet.universe t
      → IsRowFor (edited sheet gone added) t (after rows changes t) ⊎ ((after rows changes t ≡ row_of rows t) × MayStay cells gone added t (row_of rows t))
  -- a reason whose support has none of the entries that are gone stays as it was
  pub stays : (t : Target) (j : Justification) → row_of rows t ≡ Some j → HasNone gone j.support → after rows changes t ≡ Some j
  -- and so does all that is kept of the other parts' targets
  pub others : (t : Target) → ¬ Contains cells t.cell.0 → after rows changes t ≡ row_of rows t
  -- a new reason has at most so many steps
  pub steps : (t : Target) (j : Justification) → after rows changes t ≡ Some j → (row_of rows t ≡ Some j) ⊎ (steps_in j.lines ≤ most)
  pub targets : (r : TargetRow) → Contains changes r → IsTargetIn sheet.universe r.target
  -- and the new reasons count for no more bytes than all
  pub bytes : (all : List TargetRow) → ((t : Target) → row_of all t ≡ after rows changes t) → bytes_of_rows changes ≤ bytes_of_rows all

-- The part of that number has the cell, and has these worlds after the edit; the changes are so, and so much was spent within the limit on
-- that part.
pub record IsMade (sheet : Sheet) (rows : List TargetRow) (c : CellId) (gone : Entry → Bool) (added : List Entry) (limit : ℕ) (edit : Edit) : Type 0 where
  pub part : Part
  pub numbered : IsPartNumbered (rules_alone sheet) edit.part part
  pub has : Contains part.cells c.0
  pub worlds_of : AreWorldsOf (edited sheet gone added) part edit.worlds
  pub changes_are : AreChanges sheet rows gone added part.cells edit.patch.rows (edit.spending.tally.learned + edit.spending.tally.calls)
  pub spends : IsSpendingOf (edited sheet gone added) (Some c) edit.spending
  pub spare : LearnsWithin edit.spending.tally
  pub limited : edit.spending.tally.limit ≡ limit
