-- Rows: of each target what is kept of why it is implied, or nothing.
use Rattle.std.specs.Prelude.{◌≡◌, ℕ, ◌+◌, ◌⊎◌, ◌*◌, ◌==◌, ◌&&◌, Bool, true, false, List, [], ◌∷◌, Option, Some, None, cond, length, map, min}
use Rattle.std.specs.Bool.{beq}
use Rattle.pc_sheet.specs.declared.ids.Entry.{Entry}
use Rattle.pc_sheet.specs.declared.ids.Target.{Target}
use Rattle.pc_log.specs.Sizes.{bytes_of}
use Rattle.pc_reason.specs.Reasons.{Justification}

pub record TargetRow : Type 0 where
  pub target : Target
  pub row : Option Justification

abbrev pub is_same_target : Target → Target → Bool
is_same_target s t = (s.cell.0 == t.cell.0) && ((s.value.0 == t.value.0) && beq s.holds t.holds)

-- the row that stands first for the target, or none
abbrev pub row_of : List TargetRow → Target → Option Justification
row_of [] t = None
row_of (r ∷ rs) t = cond (is_same_target r.target t) r.row (row_of rs t)

abbrev pub target_of : TargetRow → Target
target_of r = r.target

-- some row is the target's
abbrev pub HasRowOf : List TargetRow → Target → Type 0
HasRowOf [] t = ⊥
HasRowOf (r ∷ rs) t = (r.target ≡ t) ⊎ HasRowOf rs t

-- what the row of a target becomes by changes, of which the last one for the target counts
abbrev pub row_after : List TargetRow → Target → Option Justification → Option Justification
row_after [] t before = before
row_after (c ∷ cs) t before = row_after cs t (cond (is_same_target c.target t) c.row before)

-- ---- which targets are still to be searched

-- the targets that there are rows for
abbrev pub targets_of : List TargetRow → List Target
targets_of rows = map target_of rows

abbrev pub is_nothing : Option Justification → Bool
is_nothing None = true
is_nothing (Some j) = false

-- nothing is kept of why the target is implied
abbrev pub lacks_row : List TargetRow → Target → Bool
lacks_row rows t = is_nothing (row_of rows t)

abbrev pub is_equal_entry : Entry → Entry → Bool
is_equal_entry e f = (e.cell.0 == f.cell.0) && (e.value.0 == f.value.0)

-- the entry is one of these
abbrev pub is_entry_among : Entry → List Entry → Bool
is_entry_among e [] = false
is_entry_among e (f ∷ fs) = cond (is_equal_entry f e) true (is_entry_among e fs)

-- the support has the entry
abbrev pub is_used_in : Entry → Option Justification → Bool
is_used_in e None = false
is_used_in e (Some j) = is_entry_among e j.support

-- the support that is kept for the target has the entry
abbrev pub uses_entry : Entry → List TargetRow → Target → Bool
uses_entry e rows t = is_used_in e (row_of rows t)

-- no target has two rows
abbrev pub AreDistinct : List TargetRow → Type 0
AreDistinct [] = Unit {0}
AreDistinct (r ∷ rs) = (¬ HasRowOf rs r.target) × AreDistinct rs

-- no target has a row yet
abbrev pub AreEmpty : List TargetRow → Type 0
AreEmpty [] = Unit {0}
AreEmpty (r ∷ rs) = (r.row ≡ None) × AreEmpty rs

-- each change is of a target that has a place for a row
abbrev pub HaveTargets : List TargetRow → List TargetRow → Type 0
HaveTargets rows [] = Unit {0}
HaveTargets rows (c ∷ cs) = HasRowOf rows c.target × HaveTargets rows cs

-- the rows of all targets of a book, the bytes that the lines count for in which the derivations are kept, those of the lines on
-- which no row rests, and what all lines counted for after the last compaction, or after the first ones were put
pub record Cached : Type 0 where
  pub rows : List TargetRow
  pub bytes : ℕ
  pub spare : ℕ
  pub live : ℕ

-- ---- how many bytes rows count for

abbrev pub row_bytes : Option Justification → ℕ
row_bytes None = 0
row_bytes (Some j) = bytes_of j.lines

abbrev pub bytes_of_rows : List TargetRow → ℕ
bytes_of_rows [] = 0
bytes_of_rows (r ∷ rs) = row_bytes r.row + bytes_of_rows rs

-- how many lines rows have, were none shared
abbrev pub row_lines : Option Justification → ℕ
row_lines None = 0
row_lines (Some j) = length j.lines

abbrev pub lines_of_rows : List TargetRow → ℕ
lines_of_rows [] = 0
lines_of_rows (r ∷ rs) = row_lines r.row + lines_of_rows rs

-- ---- when derivations are compacted

-- how many bytes the lines of the rows alone may count for: what all counted for after the last compaction, or 16 for each line of each
-- row, where that is less
abbrev pub bytes_alive : Cached → ℕ
bytes_alive c = min c.live (16 * lines_of_rows c.rows)

-- what counts as live after changes: what all lines count for, where there were none, and else what counted before
abbrev pub live_after : ℕ → ℕ → ℕ → ℕ
live_after before live after = cond (before == 0) after live
