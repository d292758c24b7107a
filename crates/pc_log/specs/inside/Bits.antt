-- Rising places as the bits of words.
use Rattle.std.specs.Prelude.{◌≡◌, ℕ, zero, suc, ◌+◌, ◌*◌, ◌/◌, ◌%◌, ◌^◌, ◌≤◌, ◌==◌, Bool, List, [], ◌∷◌, ◌++◌, cond, length, slice_index_or}
use Rattle.std.specs.Int.{bit_at}

-- the bit of a place, 64 in a word; there is none past the end
unfoldable pub bit : List ℕ → ℕ → Bool
bit words place = bit_at (slice_index_or words (place / 64) 0) (place % 64) == 1

-- the places below this one that have a bit
unfoldable pub places_below : List ℕ → ℕ → List ℕ
places_below words zero = []
places_below words (suc n) = places_below words n ++ cond (bit words n) (n ∷ []) []

abbrev pub places_in : List ℕ → List ℕ
places_in words = places_below words (64 * length words)

-- how many places stand before each of so many words, and before the next one
pub record AreRanks (words ranks : List ℕ) (count : ℕ) : Type 0 where
  pub size : length ranks ≡ count + 1
  pub each : (at : ℕ) → at ≤ count → slice_index_or ranks at 0 ≡ length (places_below words (64 * at))

-- the ranks of all words, which are at most 2^26
pub record AreRanked (words ranks : List ℕ) : Type 0 where
  pub few : length words ≤ 2 ^ 26
  pub ranks_are : AreRanks words ranks (length words)
