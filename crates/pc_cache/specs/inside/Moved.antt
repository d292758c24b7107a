-- Rows whose blocks stand behind others.
use Rattle.std.specs.Prelude.{◌≡◌, ℕ, ◌+◌, List, [], ◌∷◌, Option, Some, None}
use Rattle.pc_log.specs.Lines.{LogLine}
use Rattle.pc_cache.specs.inside.Kept.{bytes_of_blocks, rows_in, AreRowsIn, KeepsBlocks}
use Rattle.pc_cache.specs.declared.row.Row.{Row}
use Rattle.pc_cache.specs.declared.row.Slot.{Slot}

-- its block counted behind so many others
abbrev pub moved_row : ℕ → Option Row → Option Row
moved_row base None = None
moved_row base (Some r) = Some (record r { block = base + r.block })

abbrev pub moved_rows : ℕ → List Slot → List Slot
moved_rows base [] = []
moved_rows base (s ∷ ss) = record s { row = moved_row base s.row } ∷ moved_rows base ss

-- blocks were put among others, with the slots whose rows' lines stand in them: the others' lines stay, and the rows are as they were
pub record AreTaken (from : List (List (Option LogLine))) (slots : List Slot) (old new : List (List (Option LogLine))) (after : List Slot) : Type 0 where
  pub keeps : KeepsBlocks old new
  pub are : AreRowsIn new after
  pub same : rows_in new after ≡ rows_in from slots
  pub bytes : bytes_of_blocks new ≡ bytes_of_blocks old + bytes_of_blocks from
