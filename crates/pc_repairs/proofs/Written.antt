-- Texts of parts and sets, and lists that are made element by element.
use Rattle.std.proofs.Common.{◌≡◌, ℕ, zero, suc, ◌+◌, ◌<◌, List, [], ◌∷◌, ◌++◌, get_or, map, take, Option, Some, Ok, Err, slice_get, ap, refl, sym, ◌∙◌, subst}
use Rattle.std.specs.List.{AllZip, flat_map}
use Rattle.std.proofs.lemmas.List.{take_more}
use Rattle.std.proofs.lemmas.List.{append-nil}
use Rattle.pc_lemmas.proofs.Options.{same_some}
use Rattle.pc_theory.proofs.Lists.{at_within, none_some}
use Rattle.pc_writer.proofs.InTurn.{Writes-cut, Writes-nil, Writes-same, Writes-then}
use Rattle.pc_writer.specs.Writes.{Writes}

pub flat_mapped : {X Y Z : Type 0} (f : Y → List Z) (g : X → Y) (xs : List X) → flat_map f (map g xs) ≡ flat_map (λ x. f (g x)) xs
flat_mapped f g [] = refl
flat_mapped f g (x ∷ xs) = ap (λ zs. f (g x) ++ zs) (flat_mapped f g xs)

pub zip_push : {X Y : Type 0} (R : X → Y → Type 0) (xs : List X) (ys : List Y) (x : X) (y : Y) → AllZip R xs ys → R x y → AllZip R (xs ++ x ∷ []) (ys ++ y ∷ [])
zip_push R [] [] x y z r = (r, tt)
zip_push R [] (w ∷ ys) x y z r = absurd z
zip_push R (v ∷ xs) [] x y z r = absurd z
zip_push R (v ∷ xs) (w ∷ ys) x y z r = (z.0, zip_push R xs ys x y z.1 r)

at_get : {X : Type 0} (xs : List X) (i : ℕ) (x d : X) → slice_get xs i ≡ Some x → get_or xs i d ≡ x
at_get [] i x d at = absurd (none_some at)
at_get (y ∷ xs) zero x d at = same_some at
at_get (y ∷ xs) (suc i) x d at = at_get xs i x d at

pub take_one : {X : Type 0} (xs : List X) (i : ℕ) (x : X) → slice_get xs i ≡ Some x → take (i + 1) xs ≡ take i xs ++ x ∷ []
take_one xs i x at = take_more xs i x (at_within xs i x at) ∙ ap (λ y. take i xs ++ y ∷ []) (at_get xs i x x at)

-- one more element beside one more
pub zip_more : {X Y : Type 0} (R : X → Y → Type 0) (xs : List X) (ys : List Y) (i : ℕ) (x : X) (y : Y) → slice_get xs i ≡ Some x → AllZip R (take i xs) ys → R x y → AllZip R (take (i + 1) xs) (ys ++ y ∷ [])
zip_more R xs ys i x y at z r = subst (λ zs. AllZip R zs (ys ++ y ∷ [])) (sym (take_one xs i x at)) (zip_push R (take i xs) ys x y z r)

-- ---- what was written, told in other errors

module _ {S : Type 0} {given : S → Option (List ℕ)} {faults : S → ℕ} {before after : S} where
  pub told_ok : {D E : Type 0} (text : List ℕ) → Writes {T = Unit {0}} {E = D} given faults before after (Ok tt) text → Writes {T = Unit {0}} {E = E} given faults before after (Ok tt) text
  told_ok text written = Writes-same (append-nil text) (Writes-then written (Writes-nil given faults after tt))

  pub told_err : {D E : Type 0} (fault : D) (other : E) (text : List ℕ) → Writes {T = Unit {0}} {E = D} given faults before after (Err fault) text → Writes {T = Unit {0}} {E = E} given faults before after (Err other) text
  told_err fault other text cut = Writes-same (append-nil text) (Writes-cut (Err other) [] refl cut)
