-- Symbols as lists of numbers, by which they are found.
use Rattle.std.specs.Prelude.{◌≡◌, ℕ, zero, suc, ◌⊎◌, List, [], ◌∷◌, ◌++◌, Contains, Some, slice_get}
use Rattle.pc_accept.specs.Literals.{Symbol, pair, node}

-- a pair begins with 0, a node with 1
abbrev pub key_of : Symbol → List ℕ
key_of (pair c v) = 0 ∷ c.0 ∷ v.0 ∷ []
key_of (node rule path) = 1 ∷ rule ∷ path

abbrev pub symbol_by : List ℕ → Symbol
symbol_by [] = node 0 []
symbol_by (zero ∷ []) = node 0 []
symbol_by (zero ∷ c ∷ []) = node 0 []
symbol_by (zero ∷ c ∷ v ∷ rest) = pair (record { 0 = c }) (record { 0 = v })
symbol_by (suc tag ∷ []) = node 0 []
symbol_by (suc tag ∷ rule ∷ path) = node rule path

-- the list is a symbol's
abbrev pub IsKey : List ℕ → Type 0
IsKey key = key ≡ key_of (symbol_by key)

module _ {A : Type 0} where
  -- the item has this number in the new list, which is the old one, or has the item as one more
  pub record IsNumberedAs (old new : List A) (x : A) (n : ℕ) : Type 0 where
    pub at : slice_get new n ≡ Some x
    pub kept : (Contains old x × (new ≡ old)) ⊎ ((¬ Contains old x) × (new ≡ old ++ x ∷ []))

  -- the same of several items, one after the other
  abbrev pub AreNumberedAs : List A → List A → List A → List ℕ → Type 0
  AreNumberedAs old new [] [] = new ≡ old
  AreNumberedAs old new [] (n ∷ ns) = ⊥
  AreNumberedAs old new (x ∷ xs) [] = ⊥
  AreNumberedAs old new (x ∷ xs) (n ∷ ns) = (next : List A) × IsNumberedAs old next x n × AreNumberedAs next new xs ns
