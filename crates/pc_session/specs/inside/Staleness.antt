-- Lists of targets that are to be searched at an edit of a cell's entries, where these are the cells of its part.
use Rattle.std.specs.Prelude.{◌≡◌, Bool, List, ℕ, Some, Contains}
use Rattle.pc_sheet.specs.Sheet.{Sheet}
use Rattle.pc_sheet.specs.declared.ids.Entry.{Entry}
use Rattle.pc_sheet.specs.declared.ids.Target.{Target}
use Rattle.pc_reason.specs.Reasons.{Justification}
use Rattle.pc_reason.specs.Targets.{IsTargetIn}
use Rattle.pc_justify_laws.specs.Edits.{HasNone, MayStay}
use Rattle.pc_cache.specs.Rows.{TargetRow, row_of}

-- what isn't searched may stay, what is searched is on these cells, and its support, if it had one, has an entry that is gone
pub record IsStale (sheet : Sheet) (rows : List TargetRow) (gone : Entry → Bool) (added : List Entry) (cells : List ℕ) (ts : List Target) : Type 0 where
  pub covers : (t : Target) → IsTargetIn sheet.universe t → ¬ Contains ts t → MayStay cells gone added t (row_of rows t)
  pub on : (t : Target) → Contains ts t → Contains cells t.cell.0 × IsTargetIn sheet.universe t
  pub only : (t : Target) (j : Justification) → Contains ts t → row_of rows t ≡ Some j → ¬ HasNone gone j.support
