-- A cache's fields.
use Rattle.std.specs.Prelude.{ℕ, ◌≤◌, ◌^◌, List, Option, length}
use Rattle.pc_log.specs.Lines.{LogLine}
use Rattle.pc_cache.specs.Rows.{Cached}
use Rattle.pc_cache.specs.inside.Kept.{bytes_of_blocks, rows_in, AreRowsIn}
use Rattle.pc_cache.specs.inside.Places.{ArePlaced, AreSmall}
use Rattle.pc_cache.specs.inside.Spare.{spare_in}
use Rattle.pc_cache.specs.declared.row.Slot.{Slot}

-- each slot stands in its place, and its row's lines stand in a block
pub record IsKept (blocks : List (List (Option LogLine))) (starts : List ℕ) (slots : List Slot) : Type 0 where
  pub small : AreSmall starts
  pub placed : ArePlaced starts 0 slots
  pub rows : AreRowsIn blocks slots
  pub few : length slots ≤ 2 ^ 21

abbrev pub cached_in : List (List (Option LogLine)) → List Slot → ℕ → Cached
cached_in blocks slots live = record { rows = rows_in blocks slots; bytes = bytes_of_blocks blocks; spare = spare_in slots 0 blocks; live = live }
