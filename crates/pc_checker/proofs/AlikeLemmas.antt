-- Sets of one size that are all different.
use Rattle.std.proofs.Common.{◌≡◌, ◌≢◌, ℕ, zero, suc, ◌+◌, ◌<◌, ◌≤◌, inl, inr, List, [], ◌∷◌, ◌++◌, map, length, get_or, AllPairs, Contains, None, slice_get, refl, ap, ap₂, sym, ◌∙◌, subst, arith}
use Rattle.std.proofs.lemmas.Bool.{cases_eq}
use Rattle.std.proofs.lemmas.List.{length-append, get_or_append_left, get_or_push, get_or_default}
use Rattle.std.proofs.lemmas.List.Kept.{AllPairs-from_increasing}
use Rattle.std.proofs.lemmas.Option.{slice_get_past}
use Rattle.std.specs.List.Sorted.{IsStrictlyIncreasing}
use Rattle.pc_lemmas.proofs.Elements.{contains_none, contains_first, contains_later, contains_cases, contains_map, contains_mapped}
use Rattle.pc_sheet.specs.MaximalSets.{IsContained}
use Rattle.pc_accept.specs.Literals.{Symbol, node}
use Rattle.pc_cert.specs.Keys.{IsKey, IsNumberedAs, symbol_by}
use Rattle.pc_cert.specs.Text.{entry_said}
use Rattle.pc_cert.specs.Views.{said_of, set_of, symbol_at, AreSymbolsDistinct}
use Rattle.pc_cert.specs.declared.cert.Said.{Said}
use Rattle.pc_cert.specs.declared.cert.SaidSet.{SaidSet}
use Rattle.pc_checker.specs.Entered.{pair_place}
use Rattle.pc_checker.specs.Made.{AreFirstApart, entries_of}
use Rattle.pc_checker.specs.Verdicts.{AreApart}
use Rattle.pc_checker.specs.inside.Alike.{AreKeyed, AreSetPlaces, IsNamedBy, IsSetKey, place_said}

-- ---- lists of numbers that rise

abbrev Rise : List ℕ → Type 0
Rise xs = AllPairs (λ x y. x < y) xs

later_rise : (x : ℕ) (xs : List ℕ) → Rise (x ∷ xs) → Rise xs
later_rise x xs h i j d below inside = h (suc i) (suc j) d (omega (arith, below)) (omega (arith, inside))

below_later : (x : ℕ) (xs : List ℕ) → Rise (x ∷ xs) → (y : ℕ) → Contains xs y → x < y
below_later x xs h y c = subst (λ z. x < z) c.2 (h zero (suc c.0) y (omega arith) (omega (arith, c.1)))

-- a list all of whose numbers the other has is no longer, and as long only where it is the other
within : (xs ys : List ℕ) → Rise xs → Rise ys → ((p : ℕ) → Contains xs p → Contains ys p) → (length xs ≤ length ys) × (length xs ≡ length ys → xs ≡ ys)
within [] [] up vp has = (omega arith, λ long. refl)
within [] (y ∷ ys) up vp has = (omega arith, λ long. absurd (omega (arith, long)))
within (x ∷ xs) [] up vp has = absurd (contains_none x (has x (contains_first x xs)))
within (x ∷ xs) (y ∷ ys) up vp has = elim (contains_cases y ys x (has x (contains_first x xs))) [
  | inl same ↦
      let rest = within xs ys (later_rise x xs up) (later_rise y ys vp) (λ p c. elim (contains_cases y ys p (has p (contains_later x xs p c))) [
        | inl is ↦ absurd (omega (arith, below_later x xs up p c, same, is))
        | inr later ↦ later
      ]) in
      (omega (arith, rest.0), λ long. ap₂ (λ z zs. z ∷ zs) (sym same) (rest.1 (omega (arith, long))))
  | inr later ↦
      let above : y < x = below_later y ys vp x later in
      let rest = within (x ∷ xs) ys up (later_rise y ys vp) (λ p c. elim (contains_cases y ys p (has p c)) [
        | inl is ↦ elim (contains_cases x xs p c) [
          | inl first ↦ absurd (omega (arith, above, is, first))
          | inr beyond ↦ absurd (omega (arith, above, is, below_later x xs up p beyond))
        ]
        | inr there ↦ there
      ]) in
      (omega (arith, rest.0), λ long. absurd (omega (arith, long, rest.0)))
]

-- ---- two sets with keys of one length

place_within : (us vs : List Said) → IsContained (entries_of us) (entries_of vs) → (p : ℕ) → Contains (map place_said us) p → Contains (map place_said vs) p
place_within us vs contained p c =
    let u = contains_mapped place_said us p c in
    let e = entry_said (said_of u.0) in
    let has : Contains (entries_of us) e = contains_map entry_said (map said_of us) (said_of u.0) (contains_map said_of us u.0 u.1) in
    let said = contains_mapped entry_said (map said_of vs) e (contained e has) in
    let v = contains_mapped said_of vs said.0 said.1 in
    let same : place_said v.0 ≡ p = ap pair_place (ap entry_said v.2 ∙ said.2) ∙ u.2 in
    subst (Contains (map place_said vs)) same (contains_map place_said vs v.0 v.1)

-- where one lies within the other they have one key
one_key : (us vs : List Said) (k l : List ℕ) → IsSetKey us k → IsSetKey vs l → length k ≡ length l → IsContained (entries_of us) (entries_of vs) → k ≡ l
one_key us vs k l of_us of_vs long contained =
    let ps = of_us.places in
    let qs = of_vs.places in
    let many : length ps ≡ length qs = omega (arith, long, ap length of_us.is, ap length of_vs.is) in
    let same = within ps qs (AllPairs-from_increasing ps of_us.are.rise) (AllPairs-from_increasing qs of_vs.are.rise)
    (λ p c. (of_vs.are.has p).1 (place_within us vs contained p ((of_us.are.has p).0 c)))
    in
    of_us.is ∙ ap (λ xs. 1 ∷ 0 ∷ xs) (same.1 many) ∙ sym of_vs.is

named_apart : (size : ℕ) (s t : SaidSet) (x y : Symbol) → IsNamedBy size s x → IsNamedBy size t y → x ≢ y → AreApart (set_of s) (set_of t)
named_apart size s t x y named other differ =
    let us = s.uses.items in
    let vs = t.uses.items in
    let long : length named.key ≡ length other.key = named.long ∙ sym other.long in (
      λ inside. differ (named.by_key ∙ ap symbol_by (one_key us vs named.key other.key named.is_key other.is_key long inside) ∙ sym other.by_key),
      λ inside. differ (named.by_key ∙ ap symbol_by (sym (one_key vs us other.key named.key other.is_key named.is_key (sym long) inside)) ∙ sym other.by_key),
    )

-- ---- the first sets of a list

pub are_first_apart : (sets : List SaidSet) (size n : ℕ) (names : List Symbol) → n ≤ length sets → AreKeyed sets size n names → AreFirstApart sets n
are_first_apart sets size n names within keyed = record {
  within = within;
  apart = λ j below k d less. named_apart size (get_or sets k d) (get_or sets j d) (symbol_at names k) (symbol_at names j) (keyed.each k d (omega (arith, less, below))) (keyed.each j d below)
      (keyed.different k j less (omega (arith, below, keyed.count)));
}

pub none_keyed : (sets : List SaidSet) (size : ℕ) (names : List Symbol) → names ≡ [] → AreKeyed sets size 0 names
none_keyed sets size names none = record {
  count = ap length none;
  each = λ k d less. absurd (omega (arith, less));
  different = λ i j less inside. absurd (omega (arith, inside, ap length none));
}

-- one set more

more_named : (sets : List SaidSet) (size i : ℕ) (s : SaidSet) (key : List ℕ) (old new : List Symbol) → AreKeyed sets size i old → IsNamedBy size s (symbol_by key) → s ≡ get_or sets i s → i < length sets → new ≡ old ++ symbol_by key ∷ []
    → (k : ℕ) (d : SaidSet) → k < i + 1 → IsNamedBy size (get_or sets k d) (symbol_at new k)
more_named sets size i s key old new keyed named is inside are k d less = elim (cases_eq k i) [
  | inl here ↦
      let name : symbol_at new k ≡ symbol_by key = ap₂ symbol_at are here ∙ get_or_push old (symbol_by key) (node 0 []) i keyed.count in
      let set : get_or sets k d ≡ s = ap (λ j. get_or sets j d) here ∙ get_or_default sets i d s inside ∙ sym is in
      subst (IsNamedBy size (get_or sets k d)) (sym name) (subst (λ t. IsNamedBy size t (symbol_by key)) (sym set) named)
  | inr before ↦
      let below : k < i = omega (arith, less, before) in
      let name : symbol_at new k ≡ symbol_at old k = ap (λ xs. symbol_at xs k) are ∙ get_or_append_left old (symbol_by key ∷ []) (node 0 []) k (omega (arith, below, keyed.count)) in
      subst (IsNamedBy size (get_or sets k d)) (sym name) (keyed.each k d below)
]

pub keyed_more : (sets : List SaidSet) (size i : ℕ) (s : SaidSet) (key : List ℕ) (old new : List Symbol) → i < length sets → s ≡ get_or sets i s → IsSetKey s.uses.items key → length key ≡ size → IsNumberedAs old new (symbol_by key) i → AreSymbolsDistinct new
    → AreKeyed sets size i old → AreKeyed sets size (i + 1) new
keyed_more sets size i s key old new inside is is_key long numbered different keyed = elim numbered.kept [
  | inr h ↦
      let named : IsNamedBy size s (symbol_by key) = record { key = key; is_key = is_key; long = long; by_key = refl } in
      record {
        count = omega (arith, ap length h.1, length-append old (symbol_by key ∷ []), keyed.count);
        each = more_named sets size i s key old new keyed named is inside h.1;
        different = different;
      }
  | inl h ↦
      let past : slice_get new i ≡ None = ap (λ xs. slice_get xs i) h.1 ∙ slice_get_past old i (omega (arith, keyed.count)) in
      absurd (cc (past, numbered.at))
]

-- ---- keys as they are made

pub set_places : (uses : List Said) (places before : List ℕ) → IsStrictlyIncreasing places → before ≡ map place_said uses → ((p : ℕ) → Contains before p → Contains places p) → ((p : ℕ) → Contains places p → Contains before p) → AreSetPlaces uses places
set_places uses places before rise are keeps adds = record {
  rise = rise;
  has = λ p. (λ c. subst (λ ps. Contains ps p) are (adds p c), λ c. keeps p (subst (λ ps. Contains ps p) (sym are) c));
}

pub set_key : (uses : List Said) (key path places : List ℕ) → key ≡ 1 ∷ 0 ∷ path → path ≡ places → AreSetPlaces uses places → IsSetKey uses key
set_key uses key path places is same are = record { places = places; is = is ∙ ap (λ ps. 1 ∷ 0 ∷ ps) same; are = are }

pub is_key : (uses : List Said) (key : List ℕ) → IsSetKey uses key → IsKey key
is_key uses key made = subst IsKey (sym made.is) refl
