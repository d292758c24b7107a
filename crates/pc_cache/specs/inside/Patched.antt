-- A patch's fields, and blocks of the rows' lines alone.
use Rattle.std.specs.Prelude.{◌≡◌, ◌+◌, ◌≤◌, ℕ, Bool, IsTrue, List, [], ◌∷◌, Option}
use Rattle.pc_log.specs.Lines.{LogLine}
use Rattle.pc_log.specs.Sparse.{bytes_there}
use Rattle.pc_cache.specs.Patches.{PatchView, AreOfLog}
use Rattle.pc_cache.specs.Rows.{bytes_of_rows}
use Rattle.pc_cache.specs.inside.Kept.{bytes_of_blocks, rows_in, AreRowsIn}
use Rattle.pc_cache.specs.declared.row.Slot.{Slot}

-- each row's lines stand in its block, and where no line is left over, all lines count for no more than the rows'
pub record IsOfRows (whole : Bool) (blocks : List (List (Option LogLine))) (slots : List Slot) : Type 0 where
  pub are : AreRowsIn blocks slots
  pub alone : IsTrue whole → bytes_of_blocks blocks ≤ bytes_of_rows (rows_in blocks slots)

-- the lines of the last block
abbrev pub last_in : List (List (Option LogLine)) → List (Option LogLine)
last_in [] = []
last_in (lines ∷ []) = lines
last_in (lines ∷ more ∷ blocks) = last_in (more ∷ blocks)

-- how many bytes those of all others count for
abbrev pub settled_in : List (List (Option LogLine)) → ℕ
settled_in [] = 0
settled_in (lines ∷ []) = 0
settled_in (lines ∷ more ∷ blocks) = bytes_there lines + settled_in (more ∷ blocks)

-- lines are added to the last block alone, and are the log's
abbrev pub ShareBlock : List LogLine → List (List (Option LogLine)) → List (List (Option LogLine)) → Type 0
ShareBlock log old new = AreOfLog (last_in old) log → (settled_in new ≡ settled_in old) × AreOfLog (last_in new) log

abbrev pub patch_in : List (List (Option LogLine)) → List Slot → PatchView
patch_in blocks slots = record { rows = rows_in blocks slots; settled = settled_in blocks; last = last_in blocks }
