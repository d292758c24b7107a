-- Sets of places as words of 64 bits.
use Rattle.std.specs.Prelude.{◌≡◌, ℕ, zero, suc, ◌+◌, ◌*◌, ◌/◌, ◌%◌, ◌<◌, ◌≤◌, ◌==◌, Bool, true, List, [], ◌∷◌, ◌++◌, length, slice_index_or}
use Rattle.std.specs.Int.{bit_at}

-- the bit of a place, 64 in a word; there is none past the end
unfoldable pub bit : List ℕ → ℕ → Bool
bit words place = bit_at (slice_index_or words (place / 64) 0) (place % 64) == 1

-- the truth values of the first places
unfoldable pub flags : ℕ → List ℕ → List Bool
flags zero words = []
flags (suc n) words = flags n words ++ bit words n ∷ []

-- so many places have words, and no later place has a bit
pub record AreWords (len : ℕ) (words : List ℕ) : Type 0 where
  pub enough : len ≤ 64 * length words
  pub ends : (place : ℕ) → bit words place ≡ true → place < len
