-- Sets as keys.
use Rattle.std.specs.Prelude.{◌≡◌, ◌↔◌, ℕ, ◌<◌, List, ◌∷◌, map, length, slice_index_or, Contains}
use Rattle.std.specs.List.Sorted.{IsStrictlyIncreasing}
use Rattle.pc_accept.specs.Literals.{Symbol}
use Rattle.pc_cert.specs.Keys.{symbol_by}
use Rattle.pc_cert.specs.Views.{symbol_at, AreSymbolsDistinct}
use Rattle.pc_cert.specs.declared.cert.Said.{Said}
use Rattle.pc_cert.specs.declared.cert.SaidSet.{SaidSet}
use Rattle.pc_checker.specs.Entered.{pair_place}

abbrev pub place_said : Said → ℕ
place_said s = pair_place s.entry

-- the places of the used entries in order, each once
pub record AreSetPlaces (uses : List Said) (places : List ℕ) : Type 0 where
  pub rise : IsStrictlyIncreasing places
  pub has : (p : ℕ) → Contains places p ↔ Contains (map place_said uses) p

-- these places as the key of a node of rule 0 has them
pub record IsSetKey (uses : List Said) (key : List ℕ) : Type 0 where
  pub places : List ℕ
  pub is : key ≡ 1 ∷ 0 ∷ places
  pub are : AreSetPlaces uses places

-- the set has a key that is so long, and the symbol by it
pub record IsNamedBy (size : ℕ) (s : SaidSet) (name : Symbol) : Type 0 where
  pub key : List ℕ
  pub is_key : IsSetKey s.uses.items key
  pub long : length key ≡ size
  pub by_key : name ≡ symbol_by key

-- so many of the first sets have keys of that length, with these different symbols
pub record AreKeyed (sets : List SaidSet) (size n : ℕ) (names : List Symbol) : Type 0 where
  pub count : length names ≡ n
  pub each : (k : ℕ) (d : SaidSet) → k < n → IsNamedBy size (slice_index_or sets k d) (symbol_at names k)
  pub different : AreSymbolsDistinct names
