-- Words that differ.
use Rattle.std.proofs.Common.{◌≡◌, ℕ, Bool, true, false, List, ◌∷◌, ◌↔◌, IsTrue}
use Rattle.std.specs.Prelude.{bytes_eq}
use Rattle.std.proofs.lemmas.Slice.Eq.{bytes_eq-Decides}

pub heads : {A : Type 0} (x y : A) (xs ys : List A) → x ∷ xs ≡ y ∷ ys → x ≡ y
heads x y xs ys e = cc

pub tails : {A : Type 0} (x y : A) (xs ys : List A) → x ∷ xs ≡ y ∷ ys → xs ≡ ys
tails x y xs ys e = cc

pub false_no_true : (b : Bool) → b ≡ false → b ≡ true → ⊥
false_no_true b e f = cc

pub differ : (a b : List ℕ) → bytes_eq a b ≡ false → a ≡ b → ⊥
differ a b other e = false_no_true (bytes_eq a b) other ((bytes_eq-Decides a b).1 e)

-- a list doesn't start with another word than it does
pub starts_otherwise : (a b : List ℕ) (xs ys : List (List ℕ)) → bytes_eq a b ≡ false → a ∷ xs ≡ b ∷ ys → ⊥
starts_otherwise a b xs ys other e = differ a b other (heads a b xs ys e)

pub differs : (b : Bool) (A : Type 0) → (IsTrue b ↔ A) → b ≡ false → A → ⊥
differs b A both stays is = false_no_true b stays (both.1 is)
