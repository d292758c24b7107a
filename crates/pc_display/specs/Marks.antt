-- What conflicts and marks say.
use Rattle.std.specs.Prelude.{◌≡◌, ◌↔◌, List, IsSome, IsTrue, Contains}
use Rattle.pc_sheet.specs.Sheet.{Sheet}
use Rattle.pc_sheet.specs.MaximalSets.{IsMinimalInconsistent}
use Rattle.pc_sheet.specs.WellFormed.{entries_of, IsWellFormed}
use Rattle.pc_sheet.specs.declared.ids.CellId.{CellId}
use Rattle.pc_sheet.specs.declared.ids.Entry.{Entry}
use Rattle.pc_display.specs.Supports.{Reasoning, IsReasoning}
use Rattle.pc_display.specs.Show.{conflict_of, have_conflict}

-- the entry is in some minimal inconsistent sublist of the entries
abbrev pub IsInMinimal : Sheet → Entry → Type 0
IsInMinimal sheet e = (s : List Entry) × IsMinimalInconsistent sheet s × Contains s e

-- where the reasons are the sheet's
pub record ShowConflicts (sheet : Sheet) (reason : Reasoning) : Type 0 where
  -- an entry has a conflict exactly where it is in such a sublist
  pub conflicts : (e : Entry) → Contains sheet.entries e → IsSome (conflict_of reason e) ↔ IsInMinimal sheet e
  -- a cell is marked exactly where one of its entries is
  pub marks : (c : CellId) → IsTrue (have_conflict reason (entries_of c sheet.entries)) ↔ ((e : Entry) × (e.cell ≡ c) × IsInMinimal sheet e)

-- in each book
abbrev pub MarksShowConflicts : Type 0
MarksShowConflicts = (sheet : Sheet) (reason : Reasoning) → IsWellFormed sheet → IsReasoning sheet reason → ShowConflicts sheet reason
