-- The lines on which no row rests.
use Rattle.std.specs.Prelude.{ℕ, suc, ◌+◌, ◌==◌, ◌&&◌, Bool, true, false, List, [], ◌∷◌, Option, Some, None, cond}
use Rattle.pc_log.specs.Lines.{LogLine}
use Rattle.pc_log.specs.Sparse.{bytes_or}
use Rattle.pc_cache.specs.declared.row.Row.{Row}
use Rattle.pc_cache.specs.declared.row.Slot.{Slot}

-- the place is one of these
abbrev pub is_place_among : ℕ → List ℕ → Bool
is_place_among i [] = false
is_place_among i (p ∷ ps) = cond (p == i) true (is_place_among i ps)

-- the row rests on the line at this place of the block of this number
abbrev pub rests_on_place : Option Row → ℕ → ℕ → Bool
rests_on_place None b i = false
rests_on_place (Some r) b i = (r.block == b) && is_place_among i r.places

-- some row does
abbrev pub is_rested_on : List Slot → ℕ → ℕ → Bool
is_rested_on [] b i = false
is_rested_on (s ∷ ss) b i = cond (rests_on_place s.row b i) true (is_rested_on ss b i)

-- of the block of this number, whose lines from the place `i` on these are, how many bytes those count for on which no row rests
abbrev pub spare_from : List Slot → ℕ → ℕ → List (Option LogLine) → ℕ
spare_from slots b i [] = 0
spare_from slots b i (line ∷ lines) = cond (is_rested_on slots b i) 0 (bytes_or line) + spare_from slots b (suc i) lines

-- the same of these blocks, the first of which has the number `b`
abbrev pub spare_in : List Slot → ℕ → List (List (Option LogLine)) → ℕ
spare_in slots b [] = 0
spare_in slots b (lines ∷ blocks) = spare_from slots b 0 lines + spare_in slots (suc b) blocks
