-- Lists cut at a place, and elements that are none of a list.
use Rattle.std.proofs.Common.{◌≡◌, ◌≢◌, ℕ, ◌+◌, ◌<◌, ◌⊎◌, inl, inr, List, [], ◌∷◌, ◌++◌, map, take, drop, length, get_or, All, Contains, refl, ap, sym, ◌∙◌, subst, arith}
use Rattle.std.proofs.lemmas.List.{take-append-drop, drop_more, length-map, get_or-map}
use Rattle.std.proofs.lemmas.List.Elements.{All-head, All-tail, All-contains}
use Rattle.pc_checker.specs.Verdicts.{IsFirstWithout}

pub cut_at : {X : Type 0} (xs : List X) (i : ℕ) (d : X) → i < length xs → xs ≡ take i xs ++ get_or xs i d ∷ drop (i + 1) xs
cut_at xs i d within = sym (take-append-drop i xs) ∙ ap (λ ys. take i xs ++ ys) (drop_more xs i d within)

-- the place at which a loop stops
pub without_at : {X : Type 0} (P : X → Type 0) (xs : List X) (i : ℕ) (d : X) → i < length xs → All P (take i xs) → ¬ P (get_or xs i d) → IsFirstWithout P xs (get_or xs i d)
without_at P xs i d within so fails = record { before = take i xs; after = drop (i + 1) xs; are = cut_at xs i d within; so = so; fails = fails }

-- the element in the middle
pub in_middle : {X : Type 0} (P : X → Type 0) (before after : List X) (x : X) → All P (before ++ x ∷ after) → P x
in_middle P [] after x all = All-head P x after all
in_middle P (b ∷ before) after x all = in_middle P before after x (All-tail P b (before ++ x ∷ after) all)

-- no element of the list is x
pub is_none : {X : Type 0} (xs : List X) (x : X) → All (λ y. y ≢ x) xs → ¬ Contains xs x
is_none xs x none has = All-contains (λ y. y ≢ x) xs x none has refl

pub all_mapped : {X Y : Type 0} (P : Y → Type 0) (f : X → Y) (xs : List X) → All P (map f xs) → All (λ x. P (f x)) xs
all_mapped P f xs all k d within = subst P (get_or-map f xs k d (f d) within) (all k (f d) (omega (arith, length-map xs f)))

-- Two cuts of a list are the same, or the middle of one is before that of the other.
pub two_cuts : {X : Type 0} (b a c e : List X) (x y : X) → b ++ x ∷ a ≡ c ++ y ∷ e
    → ((x ≡ y) × (b ≡ c)) ⊎ ((rest : List X) × (c ≡ b ++ x ∷ rest)) ⊎ ((rest : List X) × (b ≡ c ++ y ∷ rest))
two_cuts [] a [] e x y same = inl (cc, refl)
two_cuts [] a (z ∷ c) e x y same = inr (inl (c, (let first : x ≡ z = cc in ap (λ w. w ∷ c) (sym first))))
two_cuts (w ∷ b) a [] e x y same = inr (inr (b, (let first : w ≡ y = cc in ap (λ z. z ∷ b) first)))
two_cuts {X} (w ∷ b) a (z ∷ c) e x y same =
    let first : w ≡ z = cc in
    let rest : b ++ x ∷ a ≡ c ++ y ∷ e = cc in
    elim (two_cuts b a c e x y rest) [
      | inl h ↦ inl (h.0, ap (λ v. v ∷ b) first ∙ ap (λ v. z ∷ v) h.1)
      | inr (inl h) ↦ inr (inl (h.0, ap (λ v. z ∷ v) h.1 ∙ ap (λ v. v ∷ (b ++ x ∷ h.0)) (sym first)))
      | inr (inr h) ↦ inr (inr (h.0, ap (λ v. w ∷ v) h.1 ∙ ap (λ v. v ∷ (c ++ y ∷ h.0)) first))
    ]
