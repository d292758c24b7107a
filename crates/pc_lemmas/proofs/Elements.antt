-- Which elements a list has, and what is true of all of them.
use Rattle.std.proofs.Common.{◌≡◌, ℕ, zero, suc, ◌<◌, ◌⊎◌, inl, inr, Bool, true, false, cond, List, [], ◌∷◌, ◌++◌, length, map, slice_get, Some, All, Contains, arith, ap, refl, sym, ◌∙◌, subst}
use Rattle.std.specs.List.{flat_map, filter, AllZip}
use Rattle.std.proofs.lemmas.List.{length-map, get_or-map}
use Rattle.std.proofs.lemmas.List.Elements.{All-weaker, All-contains, All-contains_itself, Contains-append_left, Contains-append_right, Contains-append_cases}

pub contains_first : {X : Type 0} (x : X) (xs : List X) → Contains (x ∷ xs) x
contains_first x xs = (zero, omega arith, refl)

pub contains_later : {X : Type 0} (x : X) (xs : List X) (y : X) → Contains xs y → Contains (x ∷ xs) y
contains_later x xs y h = (suc h.0, omega (arith, h.1), h.2)

pub contains_cases : {X : Type 0} (x : X) (xs : List X) (y : X) → Contains (x ∷ xs) y → (x ≡ y) ⊎ Contains xs y
contains_cases x xs y (zero, l, is) = inl is
contains_cases x xs y (suc k, l, is) = inr (k, omega arith, is)

pub contains_none : {X : Type 0} (x : X) → ¬ Contains [] x
contains_none x h = absurd (omega (arith, h.1))

pub contains_map : {X Y : Type 0} (f : X → Y) (xs : List X) (x : X) → Contains xs x → Contains (map f xs) (f x)
contains_map f xs x h = (h.0, omega (arith, h.1, length-map xs f), get_or-map f xs h.0 x (f x) h.1 ∙ ap f h.2)

pub contains_mapped : {X Y : Type 0} (f : X → Y) (xs : List X) (y : Y) → Contains (map f xs) y → (x : X) × Contains xs x × (f x ≡ y)
contains_mapped f [] y h = absurd (contains_none y h)
contains_mapped f (x ∷ xs) y h = elim (contains_cases (f x) (map f xs) y h) [
  | inl is ↦ (x, contains_first x xs, is)
  | inr later ↦ let rest = contains_mapped f xs y later in (rest.0, contains_later x xs rest.0 rest.1, rest.2)
]

-- the element at a place
pub element_at : {X : Type 0} (xs : List X) (i : ℕ) → i < length xs → (x : X) × (slice_get xs i ≡ Some x)
element_at [] i below = absurd (omega (arith, below))
element_at (x ∷ xs) zero below = (x, refl)
element_at (x ∷ xs) (suc i) below = element_at xs i (omega (arith, below))

-- ---- what is true of all

-- of all elements of a list
pub all_from : {X : Type 0} (P : X → Type 0) (xs : List X) → ((x : X) → Contains xs x → P x) → All P xs
all_from P xs h = All-weaker (Contains xs) P h xs (All-contains_itself xs)

pub all_left : {X : Type 0} (P : X → Type 0) (xs ys : List X) → All P (xs ++ ys) → All P xs
all_left P xs ys h = all_from P xs (λ x c. All-contains P (xs ++ ys) x h (Contains-append_left xs ys x c))

pub all_right : {X : Type 0} (P : X → Type 0) (xs ys : List X) → All P (xs ++ ys) → All P ys
all_right P xs ys h = all_from P ys (λ x c. All-contains P (xs ++ ys) x h (Contains-append_right xs ys x c))

pub all_unmapped : {X Y : Type 0} (P : Y → Type 0) (f : X → Y) (xs : List X) → All P (map f xs) → All (λ x. P (f x)) xs
all_unmapped P f xs h = all_from (λ x. P (f x)) xs (λ x c. All-contains P (map f xs) (f x) h (contains_map f xs x c))

-- ---- lists made from the elements of a list

pub flat_there : {X Y : Type 0} (f : X → List Y) (xs : List X) (x : X) (y : Y) → Contains xs x → Contains (f x) y → Contains (flat_map f xs) y
flat_there f [] x y h k = absurd (contains_none x h)
flat_there f (z ∷ zs) x y h k = elim (contains_cases z zs x h) [
  | inl same ↦ Contains-append_left (f z) (flat_map f zs) y (subst (λ w. Contains (f w) y) (sym same) k)
  | inr later ↦ Contains-append_right (f z) (flat_map f zs) y (flat_there f zs x y later k)
]

pub there_flat : {X Y : Type 0} (f : X → List Y) (xs : List X) (y : Y) → Contains (flat_map f xs) y → (x : X) × Contains xs x × Contains (f x) y
there_flat f [] y h = absurd (contains_none y h)
there_flat f (z ∷ zs) y h = elim (Contains-append_cases (f z) (flat_map f zs) y h) [
  | inl here ↦ (z, contains_first z zs, here)
  | inr later ↦ let rest = there_flat f zs y later in (rest.0, contains_later z zs rest.0 rest.1, rest.2)
]

-- ---- what a filter keeps

pub kept : {X : Type 0} (p : X → Bool) (xs : List X) (x : X) → Contains xs x → p x ≡ true → Contains (filter p xs) x
kept p [] x h is = absurd (contains_none x h)
kept {X = X} p (y ∷ ys) x h is = elim (contains_cases y ys x h) [
  | inl same ↦ subst (λ b. Contains (cond b (y ∷ filter p ys) (filter p ys)) x) (sym (ap p same ∙ is)) (subst (λ z. Contains (y ∷ filter p ys) z) same (contains_first y (filter p ys)))
  | inr later ↦ either_way (p y) (kept p ys x later is)
]
  where
    either_way : (b : Bool) → Contains (filter p ys) x → Contains (cond b (y ∷ filter p ys) (filter p ys)) x
    either_way true c = contains_later y (filter p ys) x c
    either_way false c = c

pub kept_is : {X : Type 0} (p : X → Bool) (xs : List X) (x : X) → Contains (filter p xs) x → Contains xs x × (p x ≡ true)
kept_is p [] x h = absurd (contains_none x h)
kept_is {X = X} p (y ∷ ys) x h = by_test (λ c. kept_is p ys x c) (p y) refl h
  where
    by_test : (Contains (filter p ys) x → Contains ys x × (p x ≡ true)) → (b : Bool) → p y ≡ b → Contains (cond b (y ∷ filter p ys) (filter p ys)) x → Contains (y ∷ ys) x × (p x ≡ true)
    by_test more true e c = elim (contains_cases y (filter p ys) x c) [
      | inl same ↦ (subst (Contains (y ∷ ys)) same (contains_first y ys), sym (ap p same) ∙ e)
      | inr later ↦ let rest = more later in (contains_later y ys x rest.0, rest.1)
    ]
    by_test more false e c = let rest = more c in (contains_later y ys x rest.0, rest.1)

-- all pass
pub kept_all : {X : Type 0} (p : X → Bool) (xs : List X) → ((x : X) → Contains xs x → p x ≡ true) → filter p xs ≡ xs
kept_all p [] h = refl
kept_all p (x ∷ xs) h =
    ap (λ b. cond b (x ∷ filter p xs) (filter p xs)) (h x (contains_first x xs)) ∙ ap (λ ys. x ∷ ys) (kept_all p xs (λ y c. h y (contains_later x xs y c)))

-- ---- two lists, element by element

pub zip_made : {X Y : Type 0} (R : X → Y → Type 0) (xs : List X) → ((x : X) → Contains xs x → (y : Y) × R x y) → (ys : List Y) × AllZip R xs ys
zip_made R [] h = ([], tt)
zip_made R (x ∷ xs) h =
    let first = h x (contains_first x xs) in
    let rest = zip_made R xs (λ z c. h z (contains_later x xs z c)) in
    (first.0 ∷ rest.0, (first.1, rest.1))

pub zip_weaker : {X Y : Type 0} (R S : X → Y → Type 0) → ((x : X) (y : Y) → R x y → S x y) → (xs : List X) (ys : List Y) → AllZip R xs ys → AllZip S xs ys
zip_weaker R S f [] [] h = tt
zip_weaker R S f [] (y ∷ ys) h = absurd h
zip_weaker R S f (x ∷ xs) [] h = absurd h
zip_weaker R S f (x ∷ xs) (y ∷ ys) h = (f x y h.0, zip_weaker R S f xs ys h.1)

pub zip_both : {X Y : Type 0} (R S : X → Y → Type 0) (xs : List X) (ys : List Y) → AllZip R xs ys → AllZip S xs ys → (x : X) → Contains xs x → (y : Y) × R x y × S x y
zip_both R S [] [] h k x c = absurd (contains_none x c)
zip_both R S [] (y ∷ ys) h k x c = absurd h
zip_both R S (x ∷ xs) [] h k z c = absurd h
zip_both {Y = Y} R S (x ∷ xs) (y ∷ ys) h k z c = elim (contains_cases x xs z c) [
  | inl same ↦ subst (λ w. (y : Y) × R w y × S w y) same (y, h.0, k.0)
  | inr later ↦ zip_both R S xs ys h.1 k.1 z later
]
