-- Keys in two parts: the numbers before the last one, of which many keys have the same, and the last one.
use Rattle.std.specs.Prelude.{◌≢◌, ℕ, ◌<◌, ◌^◌, List, [], ◌∷◌, ◌++◌, AllPairs, length, slice_index_or, Vec}
use Rattle.std.specs.declared.alloc.Global.{Global}
use Rattle.pc_accept.specs.Literals.{Symbol}
use Rattle.pc_cert.specs.Keys.{IsKey, symbol_by}

-- the place of a front among all fronts, and the number behind it
pub record Link : Type 0 where
  pub front : ℕ
  pub last : ℕ

abbrev pub link_of : ℕ × ℕ → Link
link_of p = record { front = p.0; last = p.1 }

abbrev pub front_of : Vec ℕ Global → List ℕ
front_of front = front.items

-- so few different ones that each has a number
pub record AreDifferent {A : Type 0} (xs : List A) : Type 0 where
  pub different : AllPairs (λ x y. x ≢ y) xs
  pub few : length xs < 2 ^ 32

-- ---- over the fronts

abbrev pub key_in : List (List ℕ) → Link → List ℕ
key_in fronts l = slice_index_or fronts l.front [] ++ l.last ∷ []

abbrev pub symbol_in : List (List ℕ) → Link → Symbol
symbol_in fronts l = symbol_by (key_in fronts l)

-- the link leads to a symbol's key
pub record IsLinkIn (fronts : List (List ℕ)) (l : Link) : Type 0 where
  pub within : l.front < length fronts
  pub key : IsKey (key_in fronts l)
