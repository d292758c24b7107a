-- Places in lists.
use Rattle.std.proofs.Common.{◌≡◌, ◌≢◌, ℕ, zero, suc, ◌+◌, ◌<◌, ◌≤◌, inl, inr, ◌⊎◌, Bool, true, false, cond, List, [], ◌∷◌, ◌++◌, map, filter, length, get_or, sum_by, All, Contains, None, Some, slice_get, refl, ap, subst, arith}
use Rattle.std.proofs.lemmas.Option.{get_or_from_slice_get}
use Rattle.std.specs.List.{AllZip, range_with_len}
use Rattle.std.proofs.lemmas.List.Sums.{sum_by-cons}
use Rattle.pc_lemmas.proofs.Elements.{contains_cases, contains_first, contains_later, contains_none}
use Rattle.pc_lemmas.proofs.Options.{same_some}

pub none_some : {X : Type 0} {x : X} → None ≡ Some x → ⊥
none_some is = cc

-- ---- elements

pub place_of : {X : Type 0} (xs : List X) (x : X) → Contains xs x → (i : ℕ) × (slice_get xs i ≡ Some x) × (i < length xs)
place_of [] x h = absurd (contains_none x h)
place_of (y ∷ xs) x h = elim (contains_cases y xs x h) [
  | inl is ↦ (zero, ap Some is, omega arith)
  | inr later ↦ let p = place_of xs x later in (suc p.0, p.1, omega (arith, p.2))
]

pub at_contained : {X : Type 0} (xs : List X) (i : ℕ) (x : X) → slice_get xs i ≡ Some x → Contains xs x
at_contained [] i x is = absurd (none_some is)
at_contained (y ∷ xs) zero x is = subst (Contains (y ∷ xs)) (same_some is) (contains_first y xs)
at_contained (y ∷ xs) (suc i) x is = contains_later y xs x (at_contained xs i x is)

pub at_within : {X : Type 0} (xs : List X) (i : ℕ) (x : X) → slice_get xs i ≡ Some x → i < length xs
at_within [] i x is = absurd (none_some is)
at_within (y ∷ xs) zero x is = omega arith
at_within (y ∷ xs) (suc i) x is = let h = at_within xs i x is in omega (arith, h)

pub within_at : {X : Type 0} (xs : List X) (i : ℕ) → i < length xs → (x : X) × (slice_get xs i ≡ Some x)
within_at [] i below = absurd (omega (arith, below))
within_at (x ∷ xs) zero below = (x, refl)
within_at (x ∷ xs) (suc i) below = within_at xs i (omega (arith, below))

pub all_at : {X : Type 0} (P : X → Type 0) (xs : List X) (i : ℕ) (x : X) → All P xs → slice_get xs i ≡ Some x → P x
all_at P xs i x all is = subst P (get_or_from_slice_get xs i x x is) (all i x (at_within xs i x is))

pub all_in : {X : Type 0} (P : X → Type 0) (xs : List X) (x : X) → All P xs → Contains xs x → P x
all_in P xs x all has = let p = place_of xs x has in all_at P xs p.0 x all p.1

-- ---- mapped lists

pub map_at : {X Y : Type 0} (f : X → Y) (xs : List X) (i : ℕ) (x : X) → slice_get xs i ≡ Some x → slice_get (map f xs) i ≡ Some (f x)
map_at f [] i x is = absurd (none_some is)
map_at f (y ∷ xs) zero x is = ap (λ z. Some (f z)) (same_some is)
map_at f (y ∷ xs) (suc i) x is = map_at f xs i x is

pub at_map : {X Y : Type 0} (f : X → Y) (xs : List X) (i : ℕ) (y : Y) → slice_get (map f xs) i ≡ Some y → (x : X) × (slice_get xs i ≡ Some x) × (f x ≡ y)
at_map f [] i y is = absurd (none_some is)
at_map f (x ∷ xs) zero y is = (x, refl, same_some is)
at_map f (x ∷ xs) (suc i) y is = at_map f xs i y is

-- ---- filtered lists

pub few_filtered : {X : Type 0} (p : X → Bool) (xs : List X) → length (filter p xs) ≤ length xs
few_filtered p [] = omega arith
few_filtered p (y ∷ xs) = by (p y) (few_filtered p xs)
  where
    by : (b : Bool) → length (filter p xs) ≤ length xs → length (cond b (y ∷ filter p xs) (filter p xs)) ≤ length (y ∷ xs)
    by true h = omega (arith, h)
    by false h = omega (arith, h)

-- ---- two lists at a time

pub zip_at : {X Y : Type 0} (R : X → Y → Type 0) (xs : List X) (ys : List Y) (i : ℕ) (x : X) (y : Y) → AllZip R xs ys → slice_get xs i ≡ Some x → slice_get ys i ≡ Some y → R x y
zip_at R [] ys i x y h at_x at_y = absurd (none_some at_x)
zip_at R (z ∷ xs) [] i x y h at_x at_y = absurd h
zip_at R (z ∷ xs) (w ∷ ys) zero x y h at_x at_y = subst (λ a. R a y) (same_some at_x) (subst (R z) (same_some at_y) h.0)
zip_at R (z ∷ xs) (w ∷ ys) (suc i) x y h at_x at_y = zip_at R xs ys i x y h.1 at_x at_y

pub zip_length : {X Y : Type 0} (R : X → Y → Type 0) (xs : List X) (ys : List Y) → AllZip R xs ys → length xs ≡ length ys
zip_length R [] [] h = refl
zip_length R [] (y ∷ ys) h = absurd h
zip_length R (x ∷ xs) [] h = absurd h
zip_length R (x ∷ xs) (y ∷ ys) h = omega (arith, zip_length R xs ys h.1)

pub zip_from : {X Y : Type 0} (R : X → Y → Type 0) (d : Y) (xs : List X) (ys : List Y) → length xs ≡ length ys → ((i : ℕ) (x : X) → i < length ys → slice_get xs i ≡ Some x → R x (get_or ys i d)) → AllZip R xs ys
zip_from R d [] [] same h = tt
zip_from R d [] (y ∷ ys) same h = absurd (omega (arith, same))
zip_from R d (x ∷ xs) [] same h = absurd (omega (arith, same))
zip_from R d (x ∷ xs) (y ∷ ys) same h = (h zero x (omega arith) refl, zip_from R d xs ys (omega (arith, same)) (λ i z below is. h (suc i) z (omega (arith, below)) is))

-- ---- sums, and one element more

pub sum_has : {X : Type 0} (f : X → ℕ) (xs : List X) (i : ℕ) (d : X) → i < length xs → f (get_or xs i d) ≤ sum_by f xs
sum_has f [] i d below = absurd (omega (arith, below))
sum_has f (x ∷ xs) zero d below = omega (arith, sum_by-cons f x xs)
sum_has f (x ∷ xs) (suc i) d below = let h = sum_has f xs i d (omega (arith, below)) in omega (arith, sum_by-cons f x xs, h)

pub sum_push : {X : Type 0} (f : X → ℕ) (xs : List X) (x : X) → sum_by f (xs ++ x ∷ []) ≡ sum_by f xs + f x
sum_push f [] x = omega (arith, sum_by-cons f x [])
sum_push f (y ∷ xs) x = omega (arith, sum_by-cons f y (xs ++ x ∷ []), sum_by-cons f y xs, sum_push f xs x)

pub get_early : {X : Type 0} (xs : List X) (x d : X) (i : ℕ) → i < length xs → get_or (xs ++ x ∷ []) i d ≡ get_or xs i d
get_early [] x d i below = absurd (omega (arith, below))
get_early (y ∷ xs) x d zero below = refl
get_early (y ∷ xs) x d (suc i) below = get_early xs x d i (omega (arith, below))

pub get_last : {X : Type 0} (xs : List X) (x d : X) (i : ℕ) → i ≡ length xs → get_or (xs ++ x ∷ []) i d ≡ x
get_last [] x d zero is = refl
get_last [] x d (suc i) is = absurd (omega (arith, is))
get_last (y ∷ xs) x d zero is = absurd (omega (arith, is))
get_last (y ∷ xs) x d (suc i) is = get_last xs x d i (omega (arith, is))

-- ---- ranges

pub in_range : (a n c : ℕ) → Contains (range_with_len a n) c → c < a + n
in_range a zero c h = absurd (contains_none c h)
in_range a (suc n) c h = elim (contains_cases a (range_with_len (a + 1) n) c h) [
  | inl is ↦ omega (arith, is)
  | inr later ↦ let r = in_range (a + 1) n c later in omega (arith, r)
]

-- ---- numbers among others

pub among : (ns : List ℕ) (n : ℕ) → Contains ns n ⊎ (¬ Contains ns n)
among [] n = inr (contains_none n)
among (m ∷ ns) n = by (among ns n)
  where
    same_or : (m n : ℕ) → (m ≡ n) ⊎ (m ≢ n)
    same_or zero zero = inl refl
    same_or zero (suc n) = inr (λ is. omega (arith, is))
    same_or (suc m) zero = inr (λ is. omega (arith, is))
    same_or (suc m) (suc n) = elim (same_or m n) [ inl is ↦ inl (ap suc is) | inr other ↦ inr (λ is. other (omega (arith, is))) ]

    by : Contains ns n ⊎ (¬ Contains ns n) → Contains (m ∷ ns) n ⊎ (¬ Contains (m ∷ ns) n)
    by (inl later) = inl (contains_later m ns n later)
    by (inr none) = elim (same_or m n) [
      | inl is ↦ inl (subst (Contains (m ∷ ns)) is (contains_first m ns))
      | inr other ↦ inr (λ has. elim (contains_cases m ns n has) [ inl is ↦ other is | inr later ↦ none later ])
    ]
