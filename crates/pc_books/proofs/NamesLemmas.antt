-- The names of a universe and the table that has them.
use Rattle.std.proofs.Common.{◌≡◌, ◌≢◌, ℕ, zero, suc, ◌+◌, ◌-◌, ◌<◌, ◌↔◌, ◌⊎◌, Bool, true, false, cond, List, [], ◌∷◌, ◌++◌, Option, None, Some, slice_get, IsSomeAnd, IsNone, map, length, get_or, All, AllPairs, Contains, arith, ap, ◌∙◌, sym, subst, refl, inl, inr, append_assoc, append-nil}
use Rattle.std.specs.List.{flat_map, IsDistinct, AllByRecursion}
use Rattle.std.specs.Map.{lookup, keys_of}
use Rattle.std.specs.Str.{bytes_eq}
use Rattle.std.proofs.lemmas.Bool.{cases_lt}
use Rattle.std.proofs.lemmas.Grind.{flat_map-append}
use Rattle.std.proofs.lemmas.List.{map-append, length-append, get_or_append_left, get_or-append-add, get_or-append_right, get_or_default}
use Rattle.std.proofs.lemmas.List.Elements.{Contains-append_left, Contains-append_right, Contains-append_cases, Contains-get_or, All-contains, All-head, All-tail}
use Rattle.std.proofs.lemmas.Option.{none-some}
use Rattle.std.proofs.lemmas.Slice.Eq.{bytes_eq-Decides}
use Rattle.pc_sheet.specs.Sheet.{Universe, Sort, Table, Family}
use Rattle.pc_sheet.specs.WellFormed.{AreDifferent}
use Rattle.pc_sheet.specs.WellSorted.{names_of_values, names_of_sort, name_of_table, name_of_family, declared_names}
use Rattle.pc_sheet.specs.declared.ids.SortId.{SortId}
use Rattle.pc_books.specs.DeclarationsView.{IsTableOf}
use Rattle.pc_books.specs.Named.{IsNameOf, value_keys, sort_keys}
use Rattle.pc_books.specs.declared.names.Named.{Named}
use Rattle.pc_books.specs.declared.names.Named.TheVariants as named
use Rattle.pc_books.proofs.EntryLemmas.{pairs_head, pairs_tail}

-- ---- what a list has

module _ {X : Type 0} where
  contains_cons : (x : X) (xs : List X) (y : X) → Contains (x ∷ xs) y → (x ≡ y) ⊎ Contains xs y
  contains_cons x xs y (zero, l, e) = inl e
  contains_cons x xs y (suc k, l, e) = inr (k, omega arith, e)

  contains_here : (x : X) (xs : List X) (y : X) → x ≡ y → Contains (x ∷ xs) y
  contains_here x xs y e = (0, omega arith, e)

  contains_there : (x : X) (xs : List X) (y : X) → Contains xs y → Contains (x ∷ xs) y
  contains_there x xs y (k, l, e) = (suc k, omega arith, e)

  contains_from_get : (xs : List X) (j : ℕ) (y : X) → slice_get xs j ≡ Some y → Contains xs y
  contains_from_get [] j y h = cc
  contains_from_get (x ∷ xs) zero y h = contains_here x xs y (cc)
  contains_from_get (x ∷ xs) (suc j) y h = contains_there x xs y (contains_from_get xs j y h)

  get_from_contains : (xs : List X) (y : X) → Contains xs y → (j : ℕ) × (slice_get xs j ≡ Some y)
  get_from_contains [] y (k, l, e) = absurd (omega arith)
  get_from_contains (x ∷ xs) y (zero, l, e) = (0, ap Some e)
  get_from_contains (x ∷ xs) y (suc k, l, e) = let r = get_from_contains xs y (k, omega arith, e) in (suc r.0, r.1)

  some_weaker : (o : Option X) (P Q : X → Type 0) → ((x : X) → P x → Q x) → IsSomeAnd o P → IsSomeAnd o Q
  some_weaker None P Q f h = h
  some_weaker (Some x) P Q f h = f x h

  module _ (P : X → Type 0) where
    push_cases : (xs : List X) (x : X) (i : ℕ) → IsSomeAnd (slice_get (xs ++ x ∷ []) i) P → IsSomeAnd (slice_get xs i) P ⊎ ((i ≡ length xs) × P x)
    push_cases [] x zero h = inr (refl, h)
    push_cases [] x (suc i) h = absurd h
    push_cases (y ∷ xs) x zero h = inl h
    push_cases (y ∷ xs) x (suc i) h = elim (push_cases xs x i h) [ inl a ↦ inl a | inr b ↦ inr (ap suc b.0, b.1) ]

    push_old : (xs : List X) (x : X) (i : ℕ) → IsSomeAnd (slice_get xs i) P → IsSomeAnd (slice_get (xs ++ x ∷ []) i) P
    push_old [] x i h = absurd h
    push_old (y ∷ xs) x zero h = h
    push_old (y ∷ xs) x (suc i) h = push_old xs x i h

    push_last : (xs : List X) (x : X) → P x → IsSomeAnd (slice_get (xs ++ x ∷ []) (length xs)) P
    push_last [] x h = h
    push_last (y ∷ xs) x h = push_last xs x h

module _ {X Y : Type 0} where
  in_map : (f : X → Y) (y : Y) (xs : List X) (i : ℕ) → IsSomeAnd (slice_get xs i) (λ x. f x ≡ y) → Contains (map f xs) y
  in_map f y [] i h = absurd h
  in_map f y (x ∷ xs) zero h = contains_here (f x) (map f xs) y h
  in_map f y (x ∷ xs) (suc i) h = contains_there (f x) (map f xs) y (in_map f y xs i h)

  from_map : (f : X → Y) (y : Y) (xs : List X) → Contains (map f xs) y → (i : ℕ) × IsSomeAnd (slice_get xs i) (λ x. f x ≡ y)
  from_map f y [] (k, l, e) = absurd (omega arith)
  from_map f y (x ∷ xs) h = elim (contains_cons (f x) (map f xs) y h) [ inl e ↦ (0, e) | inr r ↦ (let there = from_map f y xs r in (suc there.0, there.1)) ]

  in_flat_map : (f : X → List Y) (y : Y) (xs : List X) (i : ℕ) → IsSomeAnd (slice_get xs i) (λ x. Contains (f x) y) → Contains (flat_map f xs) y
  in_flat_map f y [] i h = absurd h
  in_flat_map f y (x ∷ xs) zero h = Contains-append_left (f x) (flat_map f xs) y h
  in_flat_map f y (x ∷ xs) (suc i) h = Contains-append_right (f x) (flat_map f xs) y (in_flat_map f y xs i h)

  from_flat_map : (f : X → List Y) (y : Y) (xs : List X) → Contains (flat_map f xs) y → (i : ℕ) × IsSomeAnd (slice_get xs i) (λ x. Contains (f x) y)
  from_flat_map f y [] (k, l, e) = absurd (omega arith)
  from_flat_map f y (x ∷ xs) h = elim (Contains-append_cases (f x) (flat_map f xs) y h) [ inl e ↦ (0, e) | inr r ↦ (let there = from_flat_map f y xs r in (suc there.0, there.1)) ]

-- ---- pairs of lists end to end

module _ {X : Type 0} (R : X → X → Type 0) (xs ys : List X) where
  pairs_left : AllPairs R (xs ++ ys) → AllPairs R xs
  pairs_left h i j d order l =
      let li : i < length xs = omega arith in
      let g = h i j d order (omega (arith, length-append xs ys)) in
      subst (λ x. R x (get_or xs j d)) (get_or_append_left xs ys d i li) (subst (λ y. R (get_or (xs ++ ys) i d) y) (get_or_append_left xs ys d j l) g)

  pairs_right : AllPairs R (xs ++ ys) → AllPairs R ys
  pairs_right h i j d order l =
      let g = h (length xs + i) (length xs + j) d (omega arith) (omega (arith, length-append xs ys)) in
      subst (λ x. R x (get_or ys j d)) (get_or-append-add xs ys i d) (subst (λ y. R (get_or (xs ++ ys) (length xs + i) d) y) (get_or-append-add xs ys j d) g)

  pairs_cross : AllPairs R (xs ++ ys) → (x y : X) → Contains xs x → Contains ys y → R x y
  pairs_cross h x y (i, li, ei) (j, lj, ej) =
      let g = h i (length xs + j) x (omega arith) (omega (arith, length-append xs ys)) in
      let first : get_or (xs ++ ys) i x ≡ x = get_or_append_left xs ys x i li ∙ ei in
      let second : get_or (xs ++ ys) (length xs + j) x ≡ y = get_or-append-add xs ys j x ∙ get_or_default ys j x y lj ∙ ej in
      subst (λ a. R a y) first (subst (λ b. R (get_or (xs ++ ys) i x) b) second g)

  pairs_append : AllPairs R xs → AllPairs R ys → ((x y : X) → Contains xs x → Contains ys y → R x y) → AllPairs R (xs ++ ys)
  pairs_append hx hy cross i j d order l =
      elim (cases_lt j (length xs)) [
        | inl jl ↦
            let il : i < length xs = omega arith in
            subst (λ x. R x (get_or (xs ++ ys) j d)) (sym (get_or_append_left xs ys d i il)) (subst (λ y. R (get_or xs i d) y) (sym (get_or_append_left xs ys d j jl)) (hx i j d order jl))
        | inr jr ↦ elim (cases_lt i (length xs)) [
          | inl il ↦
              let jn : j - length xs < length ys = omega (arith, length-append xs ys) in
              let second = get_or-append_right xs ys (length xs) j d refl jr in
              subst (λ x. R x (get_or (xs ++ ys) j d)) (sym (get_or_append_left xs ys d i il))
              (subst (λ y. R (get_or xs i d) y) (sym second) (cross (get_or xs i d) (get_or ys (j - length xs) d) (Contains-get_or xs i d il) (Contains-get_or ys (j - length xs) d jn)))
          | inr ir ↦
              let jn : j - length xs < length ys = omega (arith, length-append xs ys) in
              let first = get_or-append_right xs ys (length xs) i d refl ir in
              let second = get_or-append_right xs ys (length xs) j d refl jr in
              subst (λ x. R x (get_or (xs ++ ys) j d)) (sym first) (subst (λ y. R (get_or ys (i - length xs) d) y) (sym second) (hy (i - length xs) (j - length xs) d (omega arith) jn))
        ]
      ]

-- ---- different names

apart : (x : List ℕ) (ks : List (List ℕ)) → All (λ y. x ≢ y) ks → AllByRecursion (λ y. bytes_eq x y ≡ false) ks
apart x [] h = tt
apart x (k ∷ ks) h = (by (bytes_eq x k) refl, apart x ks (All-tail (λ y. x ≢ y) k ks h))
  where
    by : (b : Bool) → bytes_eq x k ≡ b → b ≡ false
    by false e = refl
    by true e = absurd (All-head (λ y. x ≢ y) k ks h ((bytes_eq-Decides x k).0 e))

pub distinct_from : (ks : List (List ℕ)) → AreDifferent ks → IsDistinct bytes_eq ks
unfolding IsDistinct
distinct_from [] h = tt
distinct_from (k ∷ ks) h = (apart k ks (pairs_head (λ x y. x ≢ y) k ks h), distinct_from ks (pairs_tail (λ x y. x ≢ y) k ks h))

-- the names in the middle are different, and none of them stands at either end
middle_is_new : (front middle back : List (List ℕ)) → AreDifferent ((front ++ middle) ++ back)
    → AreDifferent middle × ((x y : List ℕ) → Contains (front ++ back) x → Contains middle y → x ≢ y)
middle_is_new front middle back h =
    let fronts = pairs_left (λ x y. x ≢ y) (front ++ middle) back h in (
      pairs_right (λ x y. x ≢ y) front middle fronts,
      λ x y hx hy. elim (Contains-append_cases front back x hx) [
        | inl a ↦ pairs_cross (λ x y. x ≢ y) front middle fronts x y a hy
        | inr b ↦ λ same. pairs_cross (λ x y. x ≢ y) (front ++ middle) back h y x (Contains-append_right front middle y hy) b (sym same)
      ],
    )

-- ---- names that a universe declares

module _ (u : Universe) (q : List ℕ) where
  pub name_is_declared : (n : Named) → IsNameOf u q n → Contains (declared_names u) q
  name_is_declared (named.Sort s) h =
      Contains-append_left (flat_map names_of_sort u.sorts) _ q
      (in_flat_map names_of_sort q u.sorts s.0 (some_weaker (slice_get u.sorts s.0) (λ t. t.name ≡ q) (λ t. Contains (names_of_sort t) q) (λ t e. contains_here t.name (names_of_values t.values) q e) h))
  name_is_declared (named.Table t) h =
      Contains-append_right (flat_map names_of_sort u.sorts) _ q (Contains-append_left (map name_of_table u.tables) _ q (in_map name_of_table q u.tables t.0 h))
  name_is_declared (named.Family f) h =
      Contains-append_right (flat_map names_of_sort u.sorts) _ q (Contains-append_right (map name_of_table u.tables) _ q (in_map name_of_family q u.families f.0 h))
  name_is_declared (named.Value s v) h =
      Contains-append_left (flat_map names_of_sort u.sorts) _ q
      (in_flat_map names_of_sort q u.sorts s.0 (some_weaker (slice_get u.sorts s.0) (λ t. slice_get (names_of_values t.values) v.0 ≡ Some q) (λ t. Contains (names_of_sort t) q)
      (λ t e. contains_there t.name (names_of_values t.values) q (contains_from_get (names_of_values t.values) v.0 q e)) h))

  sort_or_value : (o : Option Sort) → IsSomeAnd o (λ t. Contains (names_of_sort t) q)
      → IsSomeAnd o (λ t. t.name ≡ q) ⊎ ((j : ℕ) × IsSomeAnd o (λ t. slice_get (names_of_values t.values) j ≡ Some q))
  sort_or_value None h = absurd h
  sort_or_value (Some t) h = elim (contains_cons t.name (names_of_values t.values) q h) [ inl e ↦ inl e | inr r ↦ inr (get_from_contains (names_of_values t.values) q r) ]

  pub declared_stands_for : Contains (declared_names u) q → (n : Named) × IsNameOf u q n
  declared_stands_for h =
      elim (Contains-append_cases (flat_map names_of_sort u.sorts) _ q h) [
        | inl in_sorts ↦
            (let at = from_flat_map names_of_sort q u.sorts in_sorts in
            elim (sort_or_value (slice_get u.sorts at.0) at.1) [ inl e ↦ (named.Sort (record { 0 = at.0 }), e) | inr v ↦ (named.Value (record { 0 = at.0 }) (record { 0 = v.0 }), v.1) ])
        | inr in_rest ↦ elim (Contains-append_cases (map name_of_table u.tables) _ q in_rest) [
          | inl in_tables ↦ (let at = from_map name_of_table q u.tables in_tables in (named.Table (record { 0 = at.0 }), at.1))
          | inr in_families ↦ (let at = from_map name_of_family q u.families in_families in (named.Family (record { 0 = at.0 }), at.1))
        ]
      ]

-- ---- the table

key_stands_for : (t : List (List ℕ × Named)) (q : List ℕ) → Contains (keys_of t) q → (n : Named) × Contains t (q, n)
key_stands_for [] q (k, l, e) = absurd (omega arith)
key_stands_for (e ∷ t) q h =
    elim (contains_cons e.0 (keys_of t) q h) [ inl same ↦ (e.1, contains_here e t (q, e.1) (λ i. (same i, e.1))) | inr r ↦ (let there = key_stands_for t q r in (there.0, contains_there e t (q, there.0) there.1)) ]

contains_key : (t : List (List ℕ × Named)) (q : List ℕ) (n : Named) → Contains t (q, n) → Contains (keys_of t) q
contains_key [] q n (k, l, e) = absurd (omega arith)
contains_key (e ∷ t) q n h = elim (contains_cons e t (q, n) h) [ inl same ↦ contains_here e.0 (keys_of t) q (ap (λ p. p.0) same) | inr r ↦ contains_there e.0 (keys_of t) q (contains_key t q n r) ]

pub found_is_there : (t : List (List ℕ × Named)) (q : List ℕ) (n : Named) → lookup (bytes_eq q) t ≡ Some n → Contains t (q, n)
found_is_there [] q n h = cc
found_is_there (e ∷ t) q n h = by (bytes_eq q e.0) refl h (found_is_there t q n)
  where
    by : (b : Bool) → bytes_eq q e.0 ≡ b → cond b (Some e.1) (lookup (bytes_eq q) t) ≡ Some n → (lookup (bytes_eq q) t ≡ Some n → Contains t (q, n)) → Contains (e ∷ t) (q, n)
    by true is found rest =
        let key : e.0 ≡ q = sym ((bytes_eq-Decides q e.0).0 is) in
        let value : e.1 ≡ n = cc in
        contains_here e t (q, n) (λ i. (key i, value i))
    by false is found rest = contains_there e t (q, n) (rest found)

pub there_is_found : (t : List (List ℕ × Named)) (q : List ℕ) (n : Named) → AreDifferent (keys_of t) → Contains t (q, n) → lookup (bytes_eq q) t ≡ Some n
there_is_found [] q n different (k, l, e) = absurd (omega arith)
there_is_found (e ∷ t) q n different h =
    elim (contains_cons e t (q, n) h) [
      | inl same ↦ ap (λ b. cond b (Some e.1) (lookup (bytes_eq q) t)) ((bytes_eq-Decides q e.0).1 (sym (ap (λ p. p.0) same))) ∙ ap (λ p. Some p.1) same
      | inr r ↦ by (bytes_eq q e.0) refl (there_is_found t q n (pairs_tail (λ x y. x ≢ y) e.0 (keys_of t) different) r) r
    ]
  where
    by : (b : Bool) → bytes_eq q e.0 ≡ b → lookup (bytes_eq q) t ≡ Some n → Contains t (q, n) → cond b (Some e.1) (lookup (bytes_eq q) t) ≡ Some n
    by true is rest r =
        let head = pairs_head (λ x y. x ≢ y) e.0 (keys_of t) different in
        absurd (All-contains (λ y. e.0 ≢ y) (keys_of t) q head (contains_key t q n r) (sym ((bytes_eq-Decides q e.0).0 is)))
    by false is rest r = rest

-- what one more declaration adds to the names of a universe, by the place where its names stand among all
pub record Adds (u v : Universe) (keys : List (List ℕ × Named)) : Type 0 where
  pub front : List (List ℕ)
  pub back : List (List ℕ)
  pub before : declared_names u ≡ front ++ back
  pub after : declared_names v ≡ (front ++ keys_of keys) ++ back
  pub cases : (q : List ℕ) (n : Named) → IsNameOf v q n → IsNameOf u q n ⊎ Contains keys (q, n)
  pub old : (q : List ℕ) (n : Named) → IsNameOf u q n → IsNameOf v q n
  pub new : (q : List ℕ) (n : Named) → Contains keys (q, n) → IsNameOf v q n

pub table_grows : (u v : Universe) (t keys : List (List ℕ × Named)) → Adds u v keys → IsTableOf u t → AreDifferent (declared_names v) → IsTableOf v (t ++ keys)
table_grows u v t keys adds h different =
    let middle = middle_is_new adds.front (keys_of keys) adds.back (subst AreDifferent adds.after different) in
    record {
      exact = λ q n. (
        λ c. elim (Contains-append_cases t keys (q, n) c) [ inl a ↦ adds.old q n ((h.exact q n).0 a) | inr b ↦ adds.new q n b ],
        λ is. elim (adds.cases q n is) [ inl a ↦ Contains-append_left t keys (q, n) ((h.exact q n).1 a) | inr b ↦ Contains-append_right t keys (q, n) b ],
      );
      different = subst AreDifferent (sym (map-append (λ e. e.0) t keys)) (pairs_append (λ x y. x ≢ y) (keys_of t) (keys_of keys) h.different middle.0
          (λ x y hx hy. middle.1 x y (let n = key_stands_for t x hx in subst (λ names. Contains names x) adds.before (name_is_declared u x n.0 ((h.exact x n.0).0 n.1))) hy));
    }

-- ---- one more sort

module _ (s : SortId) where
  keys_of-values : (k : ℕ) (names : List (List ℕ)) → keys_of (value_keys s k names) ≡ names
  keys_of-values k [] = refl
  keys_of-values k (name ∷ names) = ap (λ t. name ∷ t) (keys_of-values (k + 1) names)

  value_among : (k : ℕ) (names : List (List ℕ)) (j : ℕ) (q : List ℕ) → slice_get names j ≡ Some q → Contains (value_keys s k names) (q, named.Value s (record { 0 = k + j }))
  value_among k [] j q h = cc
  value_among k (name ∷ names) zero q h =
      let same : name ≡ q = cc in
      let place : k ≡ k + 0 = omega arith in
      contains_here _ (value_keys s (k + 1) names) _ (λ i. (same i, named.Value s (record { 0 = place i })))
  value_among k (name ∷ names) (suc j) q h =
      let place : (k + 1) + j ≡ k + suc j = omega arith in
      contains_there _ (value_keys s (k + 1) names) _ (subst (λ p. Contains (value_keys s (k + 1) names) (q, named.Value s (record { 0 = p }))) place (value_among (k + 1) names j q h))

  value_is : (k : ℕ) (names : List (List ℕ)) (q : List ℕ) (n : Named) → Contains (value_keys s k names) (q, n) → (j : ℕ) × (named.Value s (record { 0 = k + j }) ≡ n) × (slice_get names j ≡ Some q)
  value_is k [] q n (i, l, e) = absurd (omega arith)
  value_is k (name ∷ names) q n h =
      elim (contains_cons _ (value_keys s (k + 1) names) (q, n) h) [
        | inl same ↦ (let place : k + 0 ≡ k = omega arith in (0, ap (λ p. named.Value s (record { 0 = p })) place ∙ ap (λ p. p.1) same, ap (λ p. Some p.0) same))
        | inr r ↦ (let there = value_is (k + 1) names q n r in let place : k + suc there.0 ≡ (k + 1) + there.0 = omega arith in (suc there.0, ap (λ p. named.Value s (record { 0 = p })) place ∙ there.1, there.2))
      ]

module _ (u : Universe) (sort : Sort) where
  abbrev pub more_sorts : Universe
  more_sorts = record u { sorts = u.sorts ++ sort ∷ [] }

  abbrev pub last_sort : SortId
  last_sort = record { 0 = length u.sorts }

  abbrev pub new_keys : List (List ℕ × Named)
  new_keys = sort_keys last_sort sort.name (names_of_values sort.values)

  sort_cases : (q : List ℕ) (n : Named) → IsNameOf more_sorts q n → IsNameOf u q n ⊎ Contains new_keys (q, n)
  sort_cases q (named.Sort s) h =
      elim (push_cases (λ t. t.name ≡ q) u.sorts sort s.0 h) [
        | inl a ↦ inl a
        | inr b ↦ inr (contains_here _ (value_keys last_sort 0 (names_of_values sort.values)) (q, named.Sort s) (λ i. (b.1 i, named.Sort (record { 0 = sym b.0 i }))))
      ]
  sort_cases q (named.Table t) h = inl h
  sort_cases q (named.Family f) h = inl h
  sort_cases q (named.Value s v) h =
      elim (push_cases (λ t. slice_get (names_of_values t.values) v.0 ≡ Some q) u.sorts sort s.0 h) [
        | inl a ↦ inl a
        | inr b ↦
            (let there = value_among last_sort 0 (names_of_values sort.values) v.0 q b.1 in
            let place : 0 + v.0 ≡ v.0 = omega arith in
            inr (contains_there _ (value_keys last_sort 0 (names_of_values sort.values)) (q, named.Value s v)
            (subst (λ n. Contains (value_keys last_sort 0 (names_of_values sort.values)) (q, n)) (λ i. named.Value (record { 0 = sym b.0 i }) (record { 0 = place i })) there)))
      ]

  sort_old : (q : List ℕ) (n : Named) → IsNameOf u q n → IsNameOf more_sorts q n
  sort_old q (named.Sort s) h = push_old (λ t. t.name ≡ q) u.sorts sort s.0 h
  sort_old q (named.Table t) h = h
  sort_old q (named.Family f) h = h
  sort_old q (named.Value s v) h = push_old (λ t. slice_get (names_of_values t.values) v.0 ≡ Some q) u.sorts sort s.0 h

  sort_new : (q : List ℕ) (n : Named) → Contains new_keys (q, n) → IsNameOf more_sorts q n
  sort_new q n h =
      elim (contains_cons _ (value_keys last_sort 0 (names_of_values sort.values)) (q, n) h) [
        | inl same ↦ subst (IsNameOf more_sorts q) (ap (λ p. p.1) same) (push_last (λ t. t.name ≡ q) u.sorts sort (ap (λ p. p.0) same))
        | inr r ↦
            (let there = value_is last_sort 0 (names_of_values sort.values) q n r in
            let place : there.0 ≡ 0 + there.0 = omega arith in
            subst (IsNameOf more_sorts q) (ap (λ p. named.Value last_sort (record { 0 = p })) place ∙ there.1)
            (push_last (λ t. slice_get (names_of_values t.values) there.0 ≡ Some q) u.sorts sort there.2))
      ]

  pub sort_adds : Adds u more_sorts new_keys
  sort_adds =
      let rest = map name_of_table u.tables ++ map name_of_family u.families in
      let whole : flat_map names_of_sort (u.sorts ++ sort ∷ []) ≡ flat_map names_of_sort u.sorts ++ keys_of new_keys =
      flat_map-append names_of_sort u.sorts (sort ∷ []) ∙ ap (λ t. flat_map names_of_sort u.sorts ++ t) (append-nil (names_of_sort sort) ∙ ap (λ t. sort.name ∷ t) (sym (keys_of-values last_sort 0 (names_of_values sort.values)))) in
      record {
        front = flat_map names_of_sort u.sorts;
        back = rest;
        before = refl;
        after = ap (λ t. t ++ rest) whole;
        cases = sort_cases;
        old = sort_old;
        new = sort_new;
      }

-- ---- one more family

module _ (u : Universe) (family : Family) where
  abbrev pub more_families : Universe
  more_families = record u { families = u.families ++ family ∷ [] }

  abbrev pub new_key : List (List ℕ × Named)
  new_key = (family.name, named.Family (record { 0 = length u.families })) ∷ []

  family_cases : (q : List ℕ) (n : Named) → IsNameOf more_families q n → IsNameOf u q n ⊎ Contains new_key (q, n)
  family_cases q (named.Sort s) h = inl h
  family_cases q (named.Table t) h = inl h
  family_cases q (named.Value s v) h = inl h
  family_cases q (named.Family f) h =
      elim (push_cases (λ t. t.name ≡ q) u.families family f.0 h) [
        | inl a ↦ inl a
        | inr b ↦ inr (contains_here _ [] (q, named.Family f) (λ i. (b.1 i, named.Family (record { 0 = sym b.0 i }))))
      ]

  family_old : (q : List ℕ) (n : Named) → IsNameOf u q n → IsNameOf more_families q n
  family_old q (named.Sort s) h = h
  family_old q (named.Table t) h = h
  family_old q (named.Value s v) h = h
  family_old q (named.Family f) h = push_old (λ t. t.name ≡ q) u.families family f.0 h

  family_new : (q : List ℕ) (n : Named) → Contains new_key (q, n) → IsNameOf more_families q n
  family_new q n h =
      elim (contains_cons _ [] (q, n) h) [
        | inl same ↦ subst (IsNameOf more_families q) (ap (λ p. p.1) same) (push_last (λ t. t.name ≡ q) u.families family (ap (λ p. p.0) same))
        | inr r ↦ absurd (omega (arith, r.1))
      ]

  pub family_adds : Adds u more_families new_key
  family_adds =
      let sorts = flat_map names_of_sort u.sorts in
      let tables = map name_of_table u.tables in
      let families = map name_of_family u.families in
      record {
        front = declared_names u;
        back = [];
        before = sym (append-nil (declared_names u));
        after = ap (λ t. sorts ++ (tables ++ t)) (map-append name_of_family u.families (family ∷ []))
            ∙ ap (λ t. sorts ++ t) (sym (append_assoc tables families (family.name ∷ [])))
            ∙ sym (append_assoc sorts (tables ++ families) (family.name ∷ []))
            ∙ sym (append-nil (declared_names u ++ family.name ∷ []));
        cases = family_cases;
        old = family_old;
        new = family_new;
      }

-- ---- look-ups

pub look_up_exact : (u : Universe) (t : List (List ℕ × Named)) (q : List ℕ) (o : Option Named) → IsTableOf u t → o ≡ lookup (bytes_eq q) t → (n : Named) → (o ≡ Some n) ↔ IsNameOf u q n
look_up_exact u t q o h is n = (
  λ found. (h.exact q n).0 (found_is_there t q n (sym is ∙ found)),
  λ stands. is ∙ there_is_found t q n h.different ((h.exact q n).1 stands),
)

pub look_up_none : (u : Universe) (t : List (List ℕ × Named)) (q : List ℕ) (o : Option Named) → IsTableOf u t → o ≡ lookup (bytes_eq q) t → IsNone o ↔ ¬ Contains (declared_names u) q
look_up_none u t q None h is = (
  λ none c. (let n = declared_stands_for u q c in let found = (look_up_exact u t q None h is n.0).1 n.1 in none-some n.0 found),
  λ absent. refl,
)
look_up_none u t q (Some m) h is = (
  λ none. absurd (cc),
  λ absent. absurd (absent (name_is_declared u q m ((look_up_exact u t q (Some m) h is m).0 refl))),
)

-- ---- one more table

module _ (u : Universe) (table : Table) where
  abbrev pub more_tables : Universe
  more_tables = record u { tables = u.tables ++ table ∷ [] }

  abbrev pub table_key : List (List ℕ × Named)
  table_key = (table.name, named.Table (record { 0 = length u.tables })) ∷ []

  table_cases : (q : List ℕ) (n : Named) → IsNameOf more_tables q n → IsNameOf u q n ⊎ Contains table_key (q, n)
  table_cases q (named.Sort s) h = inl h
  table_cases q (named.Family f) h = inl h
  table_cases q (named.Value s v) h = inl h
  table_cases q (named.Table t) h =
      elim (push_cases (λ t. t.name ≡ q) u.tables table t.0 h) [
        | inl a ↦ inl a
        | inr b ↦ inr (contains_here _ [] (q, named.Table t) (λ i. (b.1 i, named.Table (record { 0 = sym b.0 i }))))
      ]

  table_old : (q : List ℕ) (n : Named) → IsNameOf u q n → IsNameOf more_tables q n
  table_old q (named.Sort s) h = h
  table_old q (named.Family f) h = h
  table_old q (named.Value s v) h = h
  table_old q (named.Table t) h = push_old (λ t. t.name ≡ q) u.tables table t.0 h

  table_new : (q : List ℕ) (n : Named) → Contains table_key (q, n) → IsNameOf more_tables q n
  table_new q n h =
      elim (contains_cons _ [] (q, n) h) [
        | inl same ↦ subst (IsNameOf more_tables q) (ap (λ p. p.1) same) (push_last (λ t. t.name ≡ q) u.tables table (ap (λ p. p.0) same))
        | inr r ↦ absurd (omega (arith, r.1))
      ]

  pub table_adds : Adds u more_tables table_key
  table_adds =
      let sorts = flat_map names_of_sort u.sorts in
      let tables = map name_of_table u.tables in
      let families = map name_of_family u.families in
      record {
        front = sorts ++ tables;
        back = families;
        before = sym (append_assoc sorts tables families);
        after = ap (λ t. sorts ++ (t ++ families)) (map-append name_of_table u.tables (table ∷ []))
            ∙ sym (append_assoc sorts (tables ++ table.name ∷ []) families)
            ∙ ap (λ t. t ++ families) (sym (append_assoc sorts tables (table.name ∷ [])));
        cases = table_cases;
        old = table_old;
        new = table_new;
      }
