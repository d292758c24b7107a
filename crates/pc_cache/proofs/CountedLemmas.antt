-- How many lines rows have: as one replaces another, and of all rows as they are seen.
use Rattle.std.proofs.Common.{◌≡◌, ℕ, zero, suc, ◌+◌, ◌-◌, ◌*◌, ◌^◌, ◌<◌, ◌≤◌, List, [], ◌∷◌, Option, Some, None, length, get_or, refl, sym, ap, ◌∙◌, subst, arith}
use Rattle.std.specs.Prelude.{slice_set}
use Rattle.pc_log.specs.Lines.{LogLine}
use Rattle.pc_log.specs.Sparse.{line_in}
use Rattle.pc_log.proofs.PickedLemmas.{picked_length}
use Rattle.pc_cache.specs.Rows.{lines_of_rows, row_lines}
use Rattle.pc_cache.specs.inside.Counted.{places_of, places_in, AreShort, IsCounted}
use Rattle.pc_cache.specs.inside.Kept.{block_at, kept_or_none, rows_in}
use Rattle.pc_cache.specs.inside.Places.{IsSlotOf}
use Rattle.pc_cache.specs.declared.row.Row.{Row}
use Rattle.pc_cache.specs.declared.row.Slot.{Slot}
use Rattle.pc_cache.proofs.SlotLemmas.{within_slots}

-- ---- one row in place of another

pub place_within : (slots : List Slot) (k : ℕ) (d : Slot) → k < length slots → places_of (get_or slots k d).row ≤ places_in slots
place_within [] k d low = absurd (omega (arith, low))
place_within (s ∷ ss) zero d low = omega arith
place_within (s ∷ ss) (suc k) d low = omega (arith, place_within ss k d (omega (arith, low)))

places_set : (slots : List Slot) (k : ℕ) (d c : Slot) → k < length slots → places_in (slice_set slots k c) + places_of (get_or slots k d).row ≡ places_in slots + places_of c.row
places_set [] k d c low = absurd (omega (arith, low))
places_set (s ∷ ss) zero d c low = omega arith
places_set (s ∷ ss) (suc k) d c low = omega (arith, places_set ss k d c (omega (arith, low)))

short_set : (slots : List Slot) (k : ℕ) (c : Slot) → AreShort slots → places_of c.row < 2 ^ 64 → AreShort (slice_set slots k c)
short_set [] k c short few = tt
short_set (s ∷ ss) zero c short few = (few, short.1)
short_set (s ∷ ss) (suc k) c short few = (short.0, short_set ss k c short.1 few)

places_few : (slots : List Slot) → AreShort slots → places_in slots ≤ length slots * 2 ^ 64
places_few [] short = omega arith
places_few (s ∷ ss) short = omega (arith, short.0, places_few ss short.1)

pub count_few : (slots : List Slot) (lines : ℕ) → IsCounted slots lines → length slots ≤ 2 ^ 21 → lines ≤ 2 ^ 85
count_few slots lines counted few = omega (arith, counted.exact, places_few slots counted.short, few)

-- at the place of a change's target, where a row of so many lines stands
module _ (slots : List Slot) (lines k before after : ℕ) (s c : Slot) (is : IsSlotOf slots c.target k) (counted : IsCounted slots lines) (was : before ≡ places_of (get_or slots k s).row) (few : after < 2 ^ 64) where
  pub before_few : before ≤ lines
  before_few = omega (arith, counted.exact, was, place_within slots k s (within_slots slots k c.target is))

  pub after_few : length slots ≤ 2 ^ 21 → lines - before + after < 2 ^ 128
  after_few small = omega (arith, count_few slots lines counted small, few)

  pub counted_with : after ≡ places_of c.row → IsCounted (slice_set slots k c) (lines - before + after)
  counted_with now =
      let low = within_slots slots k c.target is in
      record {
        exact = omega (arith, counted.exact, was, now, place_within slots k s low, places_set slots k s c low);
        short = short_set slots k c counted.short (omega (arith, now, few));
      }

-- ---- all rows

row_places : (blocks : List (List (Option LogLine))) (row : Option Row) → row_lines (kept_or_none blocks row) ≡ places_of row
row_places blocks None = refl
row_places blocks (Some r) = picked_length (line_in (block_at blocks r.block)) r.places

rows_places : (blocks : List (List (Option LogLine))) (slots : List Slot) → lines_of_rows (rows_in blocks slots) ≡ places_in slots
rows_places blocks [] = refl
rows_places blocks (s ∷ ss) = omega (arith, row_places blocks s.row, rows_places blocks ss)

pub lines_counted : (blocks : List (List (Option LogLine))) (slots : List Slot) (lines : ℕ) → IsCounted slots lines → 16 * lines ≡ 16 * lines_of_rows (rows_in blocks slots)
lines_counted blocks slots lines counted = omega (arith, counted.exact, rows_places blocks slots)
