-- Blocks of the lines on which rows rest.
use Rattle.std.specs.Prelude.{◌≡◌, ℕ, ◌+◌, ◌≤◌, ◌⊎◌, true, List, Option, Some, length}
use Rattle.pc_log.specs.Lines.{LogLine}
use Rattle.pc_log.specs.Sparse.{line_there}
use Rattle.pc_cache.specs.Rows.{row_bytes, bytes_of_rows}
use Rattle.pc_cache.specs.inside.Kept.{block_at, bytes_of_blocks, kept_or_none, rows_in, AreRowsIn, IsRowIn, KeepsBlocks}
use Rattle.pc_cache.specs.inside.Spare.{is_rested_on, rests_on_place}
use Rattle.pc_cache.specs.declared.row.Row.{Row}
use Rattle.pc_cache.specs.declared.row.Slot.{Slot}

-- each line that is kept stood there before, or the row rests on it
abbrev pub KeepsOnly : List (List (Option LogLine)) → List (List (Option LogLine)) → Option Row → Type 0
KeepsOnly old new row =
    (b i : ℕ) (line : LogLine) → line_there (block_at new b) i ≡ Some line → (line_there (block_at old b) i ≡ Some line) ⊎ (rests_on_place row b i ≡ true)

-- no line is kept on which none of the rows rests
abbrev pub AreNeeded : List (List (Option LogLine)) → List Slot → Type 0
AreNeeded kept slots = (b i : ℕ) (line : LogLine) → line_there (block_at kept b) i ≡ Some line → is_rested_on slots b i ≡ true

-- what was kept of blocks, now has a row's lines too
pub record IsRowKept (blocks old new : List (List (Option LogLine))) (row : Option Row) : Type 0 where
  pub is : IsRowIn new row
  pub same : kept_or_none new row ≡ kept_or_none blocks row
  pub keeps : KeepsBlocks old new
  pub part : KeepsBlocks new blocks
  pub only : KeepsOnly old new row
  pub bytes : bytes_of_blocks new ≤ bytes_of_blocks old + row_bytes (kept_or_none blocks row)

-- what was kept of blocks has the lines of all rows, and no others
pub record AreRowsKept (blocks kept : List (List (Option LogLine))) (slots : List Slot) : Type 0 where
  pub count : length kept ≡ length blocks
  pub part : KeepsBlocks kept blocks
  pub are : AreRowsIn kept slots
  pub same : rows_in kept slots ≡ rows_in blocks slots
  pub only : AreNeeded kept slots
  pub bytes : bytes_of_blocks kept ≤ bytes_of_rows (rows_in blocks slots)
