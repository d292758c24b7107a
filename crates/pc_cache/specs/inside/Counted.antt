-- How many lines rows have, were none shared.
use Rattle.std.specs.Prelude.{◌≡◌, ◌+◌, ◌<◌, ◌^◌, ℕ, List, [], ◌∷◌, length, Option, Some, None}
use Rattle.pc_cache.specs.declared.row.Row.{Row}
use Rattle.pc_cache.specs.declared.row.Slot.{Slot}

abbrev pub places_of : Option Row → ℕ
places_of None = 0
places_of (Some r) = length r.places

abbrev pub places_in : List Slot → ℕ
places_in [] = 0
places_in (s ∷ ss) = places_of s.row + places_in ss

-- each row has fewer than 2^64
abbrev pub AreShort : List Slot → Type 0
AreShort [] = Unit {0}
AreShort (s ∷ ss) = (places_of s.row < 2 ^ 64) × AreShort ss

-- so many lines all rows have
pub record IsCounted (slots : List Slot) (lines : ℕ) : Type 0 where
  pub exact : lines ≡ places_in slots
  pub short : AreShort slots
