-- Where the slot of a target stands: the slots of each cell lie together, two for each value.
use Rattle.std.specs.Prelude.{◌≡◌, ℕ, ◌+◌, ◌*◌, ◌<◌, ◌^◌, List, [], ◌∷◌, Option, Some, slice_get, cond, All, IsSomeAnd}
use Rattle.std.specs.Option.{option_map}
use Rattle.pc_sheet.specs.declared.ids.Target.{Target}
use Rattle.pc_cache.specs.declared.row.Slot.{Slot}

-- where the first slot of each cell stands, by these starts
abbrev pub place_of : List ℕ → Target → Option ℕ
place_of starts t = option_map (λ start. start + (2 * t.value.0 + cond t.holds 0 1)) (slice_get starts t.cell.0)

-- each slot stands where its target's place is, the first one at `place`
abbrev pub ArePlaced : List ℕ → ℕ → List Slot → Type 0
ArePlaced starts place [] = Unit {0}
ArePlaced starts place (s ∷ ss) = (place_of starts s.target ≡ Some place) × ArePlaced starts (place + 1) ss

abbrev pub AreSmall : List ℕ → Type 0
AreSmall starts = All (λ start. start < 2 ^ 32) starts

-- the slot that stands there is the target's
abbrev pub IsSlotOf : List Slot → Target → ℕ → Type 0
IsSlotOf slots t place = IsSomeAnd (slice_get slots place) (λ s. s.target ≡ t)
