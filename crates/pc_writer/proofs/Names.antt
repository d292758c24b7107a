-- What stands at a number, and what stands in parentheses.
use Rattle.std.proofs.Common.{◌≡◌, ℕ, zero, suc, ◌<◌, List, [], ◌∷◌, length, map, Some, slice_get, slice_index_or, IsSomeAnd, Bool, false, nat_eq, All, arith, refl, ap, subst, sym, ◌∙◌}
use Rattle.std.specs.Option.{option_map}
use Rattle.std.proofs.lemmas.Option.{slice_get-get_or, slice_get-map, get_or_from_slice_get, slice_get_within}
use Rattle.std.proofs.lemmas.List.Elements.{All-get_or}
use Rattle.pc_writer.specs.FormulaText.{in_parentheses, parenthesized}

-- what holds of what stands at a number
pub at_place : {A : Type 0} (xs : List A) (k : ℕ) (d : A) (P : A → Type 0) → IsSomeAnd (slice_get xs k) P → P (slice_index_or xs k d)
at_place [] k d P there = absurd there
at_place (x ∷ xs) zero d P there = there
at_place (x ∷ xs) (suc k) d P there = at_place xs k d P there

pub there_within : {A : Type 0} (xs : List A) (k : ℕ) (P : A → Type 0) → IsSomeAnd (slice_get xs k) P → k < length xs
there_within [] k P there = absurd there
there_within (x ∷ xs) zero P there = omega arith
there_within (x ∷ xs) (suc k) P there = let below = there_within xs k P there in omega arith

pub place_there : {A : Type 0} (xs : List A) (k : ℕ) (d : A) (P : A → Type 0) → k < length xs → P (slice_index_or xs k d) → IsSomeAnd (slice_get xs k) P
place_there [] k d P below holds = absurd (omega (arith, below))
place_there (x ∷ xs) zero d P below holds = holds
place_there (x ∷ xs) (suc k) d P below holds = place_there xs k d P (omega arith) holds

-- what is at a number in a list, through a view
pub viewed : {A B : Type 0} (view : A → B) (xs : List A) (i : ℕ) (d : A) → i < length xs → slice_get (map view xs) i ≡ Some (view (slice_index_or xs i d))
viewed view xs i d below = slice_get-map view xs i ∙ ap (option_map view) (slice_get-get_or xs i d below)

-- all but an empty list stand in parentheses
pub in_parentheses-some : {A : Type 0} (xs : List A) (texts : List (List ℕ)) → length texts ≡ length xs → (none : Bool) → none ≡ nat_eq (length xs) 0 → none ≡ false → in_parentheses texts ≡ parenthesized texts
in_parentheses-some [] texts many none is not = absurd (cc)
in_parentheses-some (x ∷ xs) [] many none is not = absurd (omega (arith, many))
in_parentheses-some (x ∷ xs) (t ∷ texts) many none is not = refl

-- what stands at a number of a list that is seen through a view
module _ {A B : Type 0} (view : A → B) (seen : List B) (xs : List A) (same : map view xs ≡ seen) (i : ℕ) (x : A) (below : i < length xs) (is : x ≡ slice_index_or xs i x) where
  seen_at : slice_get seen i ≡ Some (view x)
  seen_at = ap (λ ys. slice_get ys i) (sym same) ∙ viewed view xs i x below ∙ ap (λ y. Some (view y)) (sym is)

  pub line_at : (line : B → List ℕ) → slice_get (map line seen) i ≡ Some (line (view x))
  line_at line = slice_get-map line seen i ∙ ap (option_map line) seen_at

  pub holds_at : (P : B → Type 0) → All P seen → P (view x)
  holds_at P all = subst P (get_or_from_slice_get seen i (view x) (view x) seen_at) (All-get_or P seen i (view x) (slice_get_within seen i (view x) seen_at) all)
