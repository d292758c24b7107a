-- Lists that are filtered, and pairs of lists.
use Rattle.std.proofs.Common.{◌≡◌, ◌↔◌, ◌||◌, inl, inr, Bool, true, false, cond, List, [], ◌∷◌, filter, map, Contains, ap, refl, sym, ◌∙◌, subst}
use Rattle.std.specs.List.{AllZip, list_any}
use Rattle.std.proofs.lemmas.Bool.{false≢true, or_cases, or_left, or_right}
use Rattle.pc_parts.specs.Parts.{IsFiltered}
use Rattle.pc_lemmas.proofs.Elements.{contains_first, contains_later, contains_cases, contains_none}

pub there_any : {X : Type 0} (p : X → Bool) (xs : List X) → list_any p xs ≡ true → (x : X) × Contains xs x × (p x ≡ true)
there_any p [] is = absurd (false≢true is)
there_any p (x ∷ xs) is = elim (or_cases (p x) (list_any p xs) is) [
  | inl here ↦ (x, contains_first x xs, here)
  | inr later ↦ let r = there_any p xs later in (r.0, contains_later x xs r.0 r.1, r.2)
]

pub any_there : {X : Type 0} (p : X → Bool) (xs : List X) (x : X) → Contains xs x → p x ≡ true → list_any p xs ≡ true
any_there p [] x c is = absurd (contains_none x c)
any_there p (y ∷ ys) x c is = elim (contains_cases y ys x c) [
  | inl same ↦ or_left (p y) (list_any p ys) (ap p same ∙ is)
  | inr later ↦ or_right (p y) (list_any p ys) (any_there p ys x later is)
]

pub any_mapped : {X Y : Type 0} (p : Y → Bool) (f : X → Y) (xs : List X) → list_any p (map f xs) ≡ list_any (λ x. p (f x)) xs
any_mapped p f [] = refl
any_mapped p f (x ∷ xs) = ap (λ b. p (f x) || b) (any_mapped p f xs)

-- what a relation says to be filtered is what the test keeps
pub filtered_is : {X : Type 0} (P : X → Type 0) (p : X → Bool) (xs ys : List X) → ((x : X) → Contains xs x → (p x ≡ true) ↔ P x) → IsFiltered P xs ys → ys ≡ filter p xs
filtered_is P p [] ys same is = is
filtered_is P p (x ∷ xs) ys same (inl (lacks, rest)) =
    by_test (p x) (λ h. lacks ((same x (contains_first x xs)).0 h)) (filtered_is P p xs ys (λ y c. same y (contains_later x xs y c)) rest)
  where
    by_test : (b : Bool) → (b ≡ true → ⊥) → ys ≡ filter p xs → ys ≡ cond b (x ∷ filter p xs) (filter p xs)
    by_test true absent same_rest = absurd (absent refl)
    by_test false absent same_rest = same_rest
filtered_is P p (x ∷ xs) ys same (inr (has, rest, are, more)) =
    by_test (p x) ((same x (contains_first x xs)).1 has) (filtered_is P p xs rest (λ y c. same y (contains_later x xs y c)) more)
  where
    by_test : (b : Bool) → b ≡ true → rest ≡ filter p xs → ys ≡ cond b (x ∷ filter p xs) (filter p xs)
    by_test true is same_rest = are ∙ ap (λ zs. x ∷ zs) same_rest
    by_test false is same_rest = absurd (false≢true is)

-- both lists are filtered by tests that say the same
pub zip_filtered : {X Y : Type 0} (R : X → Y → Type 0) (p : X → Bool) (q : Y → Bool) → ((x : X) (y : Y) → R x y → p x ≡ q y) → (xs : List X) (ys : List Y) → AllZip R xs ys → AllZip R (filter p xs) (filter q ys)
zip_filtered R p q same [] [] z = tt
zip_filtered R p q same [] (y ∷ ys) z = absurd z
zip_filtered R p q same (x ∷ xs) [] z = absurd z
zip_filtered R p q same (x ∷ xs) (y ∷ ys) z = by_test (p x) (q y) (same x y z.0) (zip_filtered R p q same xs ys z.1)
  where
    by_test : (b c : Bool) → b ≡ c → AllZip R (filter p xs) (filter q ys) → AllZip R (cond b (x ∷ filter p xs) (filter p xs)) (cond c (y ∷ filter q ys) (filter q ys))
    by_test true true is rest = (z.0, rest)
    by_test true false is rest = absurd (false≢true (sym is))
    by_test false true is rest = absurd (false≢true is)
    by_test false false is rest = rest

pub zip_there : {X Y : Type 0} (R : X → Y → Type 0) (xs : List X) (ys : List Y) → AllZip R xs ys → (y : Y) → Contains ys y → (x : X) × Contains xs x × R x y
zip_there R [] [] z y c = absurd (contains_none y c)
zip_there R [] (w ∷ ys) z y c = absurd z
zip_there R (x ∷ xs) [] z y c = absurd z
zip_there R (x ∷ xs) (w ∷ ys) z y c = elim (contains_cases w ys y c) [
  | inl is ↦ (x, contains_first x xs, subst (R x) is z.0)
  | inr later ↦ let r = zip_there R xs ys z.1 y later in (r.0, contains_later x xs r.0 r.1, r.2)
]

pub zip_along : {X Y : Type 0} (R : X → Y → Type 0) (xs : List X) (ys : List Y) → AllZip R xs ys → (x : X) → Contains xs x → (y : Y) × Contains ys y × R x y
zip_along R [] [] z x c = absurd (contains_none x c)
zip_along R [] (w ∷ ys) z x c = absurd z
zip_along R (v ∷ xs) [] z x c = absurd z
zip_along R (v ∷ xs) (w ∷ ys) z x c = elim (contains_cases v xs x c) [
  | inl is ↦ (w, contains_first w ys, subst (λ u. R u w) is z.0)
  | inr later ↦ let r = zip_along R xs ys z.1 x later in (r.0, contains_later w ys r.0 r.1, r.2)
]
