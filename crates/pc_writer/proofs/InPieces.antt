-- Pieces written one after another.
use Rattle.std.proofs.Common.{◌≡◌, ℕ, zero, suc, ◌+◌, ◌≤◌, List, [], ◌∷◌, ◌++◌, length, take, drop, slice_get, Option, Some, Result, Ok, Err, IsErr, arith, refl, sym, ◌∙◌, ap, subst, append_assoc}
use Rattle.std.specs.List.{flat_map}
use Rattle.std.proofs.lemmas.List.{take_all}
use Rattle.std.proofs.lemmas.Grind.{flat_map-append}
use Rattle.pc_sheet.proofs.Cells.{some_same}
use Rattle.pc_writer.specs.SheetText.{ended, lines_text}
use Rattle.pc_writer.specs.Writes.{Writes}
use Rattle.pc_writer.proofs.InTurn.{Writes-then, Writes-cut}

append-nil : (xs : List ℕ) → xs ++ [] ≡ xs
append-nil [] = refl
append-nil (x ∷ xs) = ap (λ ys. x ∷ ys) (append-nil xs)

pub flat_map-take_more : {A : Type 0} (f : A → List ℕ) (xs : List A) (i : ℕ) (x : A) → slice_get xs i ≡ Some x → flat_map f (take (suc i) xs) ≡ flat_map f (take i xs) ++ f x
flat_map-take_more f [] i x is = absurd (cc)
flat_map-take_more f (y ∷ xs) zero x is = append-nil (f y) ∙ ap f (some_same is)
flat_map-take_more f (y ∷ xs) (suc i) x is = ap (λ rest. f y ++ rest) (flat_map-take_more f xs i x is) ∙ sym (append_assoc (f y) (flat_map f (take i xs)) (f x))

pub flat_map-whole : {A : Type 0} (f : A → List ℕ) (xs : List A) (i : ℕ) (x : A) → slice_get xs i ≡ Some x → flat_map f xs ≡ flat_map f (take i xs) ++ (f x ++ flat_map f (drop (suc i) xs))
flat_map-whole f [] i x is = absurd (cc)
flat_map-whole f (y ∷ xs) zero x is = ap (λ z. f z ++ flat_map f xs) (some_same is)
flat_map-whole f (y ∷ xs) (suc i) x is =
    ap (λ rest. f y ++ rest) (flat_map-whole f xs i x is) ∙ sym (append_assoc (f y) (flat_map f (take i xs)) (f x ++ flat_map f (drop (suc i) xs)))

module _ {A S T F : Type 0} {given : S → Option (List ℕ)} {faults : S → ℕ} {first second third : S} {done : T} (f : A → List ℕ) (xs : List A) (i : ℕ) (x : A) (is : slice_get xs i ≡ Some x) (before : Writes {E = F} given faults first second (Ok done) (flat_map f (take i xs))) where
  pub cut_in_piece : {U D E : Type 0} {fault : E} (outcome : Result U D) → IsErr outcome → Writes {T = T} given faults second third (Err fault) (f x) → Writes given faults first third outcome (flat_map f xs)
  cut_in_piece outcome fails cut =
      subst (Writes given faults first third outcome) (sym (flat_map-whole f xs i x is)) (Writes-then before (Writes-cut outcome (flat_map f (drop (suc i) xs)) fails cut))

  pub one_more_piece : {written : T} → Writes {E = F} given faults second third (Ok written) (f x) → Writes {E = F} given faults first third (Ok written) (flat_map f (take (i + 1) xs))
  one_more_piece {written = written} there =
      let same : i + 1 ≡ suc i = omega arith in
      let next : flat_map f (take (i + 1) xs) ≡ flat_map f (take i xs) ++ f x = ap (λ n. flat_map f (take n xs)) same ∙ flat_map-take_more f xs i x is in
      subst (Writes given faults first third (Ok written)) (sym next) (Writes-then before there)

pub all_pieces : {A S T E : Type 0} {given : S → Option (List ℕ)} {faults : S → ℕ} {first last : S} {outcome : Result T E} (f : A → List ℕ) (xs : List A) (n : ℕ) → length xs ≤ n
    → Writes given faults first last outcome (flat_map f (take n xs)) → Writes given faults first last outcome (flat_map f xs)
all_pieces {given = given} {faults = faults} {first = first} {last = last} {outcome = outcome} f xs n within written =
    subst (λ ys. Writes given faults first last outcome (flat_map f ys)) (take_all n xs within) written

-- ---- lines

pub lines-of_each : {A : Type 0} (g : A → List (List ℕ)) (xs : List A) → lines_text (flat_map g xs) ≡ flat_map (λ x. lines_text (g x)) xs
lines-of_each g [] = refl
lines-of_each g (x ∷ xs) = flat_map-append ended (g x) (flat_map g xs) ∙ ap (λ rest. lines_text (g x) ++ rest) (lines-of_each g xs)

pub lines-append : (first second : List (List ℕ)) → lines_text (first ++ second) ≡ lines_text first ++ lines_text second
lines-append first second = flat_map-append ended first second
