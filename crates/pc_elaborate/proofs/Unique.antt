-- Each declared name stands for one thing.
use Rattle.std.proofs.Common.{◌≡◌, ℕ, zero, suc, ◌+◌, List, [], ◌∷◌, ◌++◌, Some, slice_get, IsSomeAnd, map, Contains, arith, ap, ap₂, ◌∙◌, sym, subst, refl}
use Rattle.std.specs.List.{flat_map}
use Rattle.std.specs.Map.{keys_of}
use Rattle.std.proofs.lemmas.List.{map-append}
use Rattle.std.proofs.lemmas.List.Elements.{Contains-append_left, Contains-append_right}
use Rattle.pc_sheet.specs.Sheet.{Universe, Sort, Table, Family}
use Rattle.pc_sheet.specs.WellFormed.{AreDifferent}
use Rattle.pc_sheet.specs.WellSorted.{names_of_values, names_of_sort, name_of_table, name_of_family, declared_names}
use Rattle.pc_sheet.specs.declared.ids.SortId.{SortId}
use Rattle.pc_books.specs.Named.{IsNameOf, value_keys, sort_keys}
use Rattle.pc_books.specs.declared.names.Named.{Named}
use Rattle.pc_books.specs.declared.names.Named.TheVariants as named
use Rattle.pc_books.proofs.NamesLemmas.{there_is_found}
use Rattle.pc_elaborate.specs.Outcome.{HasUniqueNames}

module _ {X : Type 0} where
  here : (x : X) (xs : List X) (y : X) → x ≡ y → Contains (x ∷ xs) y
  here x xs y e = (0, omega arith, e)

  there : (x : X) (xs : List X) (y : X) → Contains xs y → Contains (x ∷ xs) y
  there x xs y (k, l, e) = (suc k, omega arith, e)

-- ---- all names with what they stand for, the first declaration of each kind having that number

abbrev sorts_from : ℕ → List Sort → List (List ℕ × Named)
sorts_from k [] = []
sorts_from k (s ∷ ss) = sort_keys (record { 0 = k }) s.name (names_of_values s.values) ++ sorts_from (k + 1) ss

abbrev tables_from : ℕ → List Table → List (List ℕ × Named)
tables_from k [] = []
tables_from k (t ∷ ts) = (t.name, named.Table (record { 0 = k })) ∷ tables_from (k + 1) ts

abbrev families_from : ℕ → List Family → List (List ℕ × Named)
families_from k [] = []
families_from k (f ∷ fs) = (f.name, named.Family (record { 0 = k })) ∷ families_from (k + 1) fs

abbrev all_keys : Universe → List (List ℕ × Named)
all_keys u = sorts_from 0 u.sorts ++ (tables_from 0 u.tables ++ families_from 0 u.families)

keys_of-values : (s : SortId) (k : ℕ) (names : List (List ℕ)) → keys_of (value_keys s k names) ≡ names
keys_of-values s k [] = refl
keys_of-values s k (name ∷ names) = ap (λ t. name ∷ t) (keys_of-values s (k + 1) names)

keys_of-sorts : (k : ℕ) (ss : List Sort) → keys_of (sorts_from k ss) ≡ flat_map names_of_sort ss
keys_of-sorts k [] = refl
keys_of-sorts k (s ∷ ss) =
    map-append (λ e. e.0) (sort_keys (record { 0 = k }) s.name (names_of_values s.values)) (sorts_from (k + 1) ss)
    ∙ ap₂ (λ a b. (s.name ∷ a) ++ b) (keys_of-values (record { 0 = k }) 0 (names_of_values s.values)) (keys_of-sorts (k + 1) ss)

keys_of-tables : (k : ℕ) (ts : List Table) → keys_of (tables_from k ts) ≡ map name_of_table ts
keys_of-tables k [] = refl
keys_of-tables k (t ∷ ts) = ap (λ a. t.name ∷ a) (keys_of-tables (k + 1) ts)

keys_of-families : (k : ℕ) (fs : List Family) → keys_of (families_from k fs) ≡ map name_of_family fs
keys_of-families k [] = refl
keys_of-families k (f ∷ fs) = ap (λ a. f.name ∷ a) (keys_of-families (k + 1) fs)

keys_of-all : (u : Universe) → keys_of (all_keys u) ≡ declared_names u
keys_of-all u =
    map-append (λ e. e.0) (sorts_from 0 u.sorts) (tables_from 0 u.tables ++ families_from 0 u.families)
    ∙ ap₂ (λ a b. a ++ b) (keys_of-sorts 0 u.sorts) (map-append (λ e. e.0) (tables_from 0 u.tables) (families_from 0 u.families) ∙ ap₂ (λ a b. a ++ b) (keys_of-tables 0 u.tables) (keys_of-families 0 u.families))

value_in : (s : SortId) (k : ℕ) (names : List (List ℕ)) (j : ℕ) (q : List ℕ) → slice_get names j ≡ Some q → Contains (value_keys s k names) (q, named.Value s (record { 0 = k + j }))
value_in s k [] j q h = cc
value_in s k (name ∷ names) zero q h =
    let same : name ≡ q = cc in
    let place : k ≡ k + 0 = omega arith in
    here _ (value_keys s (k + 1) names) _ (λ i. (same i, named.Value s (record { 0 = place i })))
value_in s k (name ∷ names) (suc j) q h =
    let place : (k + 1) + j ≡ k + suc j = omega arith in
    there _ (value_keys s (k + 1) names) _ (subst (λ p. Contains (value_keys s (k + 1) names) (q, named.Value s (record { 0 = p }))) place (value_in s (k + 1) names j q h))

sort_in : (k : ℕ) (ss : List Sort) (j : ℕ) (q : List ℕ) → IsSomeAnd (slice_get ss j) (λ s. s.name ≡ q) → Contains (sorts_from k ss) (q, named.Sort (record { 0 = k + j }))
sort_in k [] j q h = absurd h
sort_in k (s ∷ ss) zero q h =
    let place : k ≡ k + 0 = omega arith in
    here _ _ _ (λ i. (h i, named.Sort (record { 0 = place i })))
sort_in k (s ∷ ss) (suc j) q h =
    let place : (k + 1) + j ≡ k + suc j = omega arith in
    Contains-append_right (sort_keys (record { 0 = k }) s.name (names_of_values s.values)) (sorts_from (k + 1) ss) _
    (subst (λ p. Contains (sorts_from (k + 1) ss) (q, named.Sort (record { 0 = p }))) place (sort_in (k + 1) ss j q h))

value_of_sort_in : (k : ℕ) (ss : List Sort) (j v : ℕ) (q : List ℕ) → IsSomeAnd (slice_get ss j) (λ s. slice_get (names_of_values s.values) v ≡ Some q)
    → Contains (sorts_from k ss) (q, named.Value (record { 0 = k + j }) (record { 0 = v }))
value_of_sort_in k [] j v q h = absurd h
value_of_sort_in k (s ∷ ss) zero v q h =
    let place : k ≡ k + 0 = omega arith in
    let value : 0 + v ≡ v = omega arith in
    let there_is = there _ (value_keys (record { 0 = k }) 0 (names_of_values s.values)) _ (value_in (record { 0 = k }) 0 (names_of_values s.values) v q h) in
    subst (λ p. Contains (sorts_from k (s ∷ ss)) (q, p)) (λ i. named.Value (record { 0 = place i }) (record { 0 = value i }))
    (Contains-append_left (sort_keys (record { 0 = k }) s.name (names_of_values s.values)) (sorts_from (k + 1) ss) _ there_is)
value_of_sort_in k (s ∷ ss) (suc j) v q h =
    let place : (k + 1) + j ≡ k + suc j = omega arith in
    Contains-append_right (sort_keys (record { 0 = k }) s.name (names_of_values s.values)) (sorts_from (k + 1) ss) _
    (subst (λ p. Contains (sorts_from (k + 1) ss) (q, named.Value (record { 0 = p }) (record { 0 = v }))) place (value_of_sort_in (k + 1) ss j v q h))

table_in : (k : ℕ) (ts : List Table) (j : ℕ) (q : List ℕ) → IsSomeAnd (slice_get ts j) (λ t. t.name ≡ q) → Contains (tables_from k ts) (q, named.Table (record { 0 = k + j }))
table_in k [] j q h = absurd h
table_in k (t ∷ ts) zero q h = let place : k ≡ k + 0 = omega arith in here _ (tables_from (k + 1) ts) _ (λ i. (h i, named.Table (record { 0 = place i })))
table_in k (t ∷ ts) (suc j) q h =
    let place : (k + 1) + j ≡ k + suc j = omega arith in
    there _ (tables_from (k + 1) ts) _ (subst (λ p. Contains (tables_from (k + 1) ts) (q, named.Table (record { 0 = p }))) place (table_in (k + 1) ts j q h))

family_in : (k : ℕ) (fs : List Family) (j : ℕ) (q : List ℕ) → IsSomeAnd (slice_get fs j) (λ f. f.name ≡ q) → Contains (families_from k fs) (q, named.Family (record { 0 = k + j }))
family_in k [] j q h = absurd h
family_in k (f ∷ fs) zero q h = let place : k ≡ k + 0 = omega arith in here _ (families_from (k + 1) fs) _ (λ i. (h i, named.Family (record { 0 = place i })))
family_in k (f ∷ fs) (suc j) q h =
    let place : (k + 1) + j ≡ k + suc j = omega arith in
    there _ (families_from (k + 1) fs) _ (subst (λ p. Contains (families_from (k + 1) fs) (q, named.Family (record { 0 = p }))) place (family_in (k + 1) fs j q h))

from_zero : (k : ℕ) → 0 + k ≡ k
from_zero k = omega arith

name_in : (u : Universe) (q : List ℕ) (n : Named) → IsNameOf u q n → Contains (all_keys u) (q, n)
name_in u q (named.Sort s) h =
    Contains-append_left (sorts_from 0 u.sorts) _ _ (subst (λ p. Contains (sorts_from 0 u.sorts) (q, named.Sort (record { 0 = p }))) (from_zero s.0) (sort_in 0 u.sorts s.0 q h))
name_in u q (named.Table t) h =
    Contains-append_right (sorts_from 0 u.sorts) _ _
    (Contains-append_left (tables_from 0 u.tables) _ _ (subst (λ p. Contains (tables_from 0 u.tables) (q, named.Table (record { 0 = p }))) (from_zero t.0) (table_in 0 u.tables t.0 q h)))
name_in u q (named.Family f) h =
    Contains-append_right (sorts_from 0 u.sorts) _ _
    (Contains-append_right (tables_from 0 u.tables) _ _ (subst (λ p. Contains (families_from 0 u.families) (q, named.Family (record { 0 = p }))) (from_zero f.0) (family_in 0 u.families f.0 q h)))
name_in u q (named.Value s v) h =
    Contains-append_left (sorts_from 0 u.sorts) _ _
    (subst (λ p. Contains (sorts_from 0 u.sorts) (q, named.Value (record { 0 = p }) v)) (from_zero s.0) (value_of_sort_in 0 u.sorts s.0 v.0 q h))

-- ---- uniqueness

pub names_are_unique : (u : Universe) → AreDifferent (declared_names u) → HasUniqueNames u
names_are_unique u different n p q h k =
    let distinct = subst AreDifferent (sym (keys_of-all u)) different in
    let first = there_is_found (all_keys u) n p distinct (name_in u n p h) in
    let second = there_is_found (all_keys u) n q distinct (name_in u n q k) in
    cc
