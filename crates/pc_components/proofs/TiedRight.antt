-- Labels that are renamed in place, cell by cell, and rows of cells that are tied.
use Rattle.std.proofs.Common.{◌≡◌, ℕ, zero, suc, ◌+◌, ◌<◌, ◌≤◌, ◌==◌, Bool, true, false, cond, ◌||◌, List, [], ◌∷◌, map, drop, length, get_or, set, eqb-true, refl, ap, sym, ◌∙◌, arith}
use Rattle.std.specs.Prelude.{min}
use Rattle.std.proofs.Math.Nat.{min-eq_left}
use Rattle.pc_parts.specs.Components.{label_of, renamed, relabeled, all_relabeled, pairs_of}

-- the first k have become what f gives
pub front : (ℕ → ℕ) → ℕ → List ℕ → List ℕ
front f zero xs = xs
front f (suc k) [] = []
front f (suc k) (x ∷ xs) = f x ∷ front f k xs

abbrev pub IsFront : (ℕ → ℕ) → ℕ → List ℕ → List ℕ → Type 0
IsFront f k xs now = now ≡ front f k xs

pub front_none : (f : ℕ → ℕ) (xs : List ℕ) → IsFront f 0 xs xs
unfolding front
front_none f xs = refl

front_long : (f : ℕ → ℕ) (k : ℕ) (xs : List ℕ) → length (front f k xs) ≡ length xs
unfolding front
front_long f zero xs = refl
front_long f (suc k) [] = refl
front_long f (suc k) (x ∷ xs) = ap suc (front_long f k xs)

front_next : (f : ℕ → ℕ) (k : ℕ) (xs : List ℕ) (d : ℕ) → set (front f k xs) k (f (get_or (front f k xs) k d)) ≡ front f (suc k) xs
unfolding front
front_next f zero [] d = refl
front_next f zero (x ∷ xs) d = refl
front_next f (suc k) [] d = refl
front_next f (suc k) (x ∷ xs) d = ap (λ ys. f x ∷ ys) (front_next f k xs d)

front_all : (f : ℕ → ℕ) (k : ℕ) (xs : List ℕ) → length xs ≤ k → front f k xs ≡ map f xs
unfolding front
front_all f zero [] l = refl
front_all f zero (x ∷ xs) l = absurd (omega (arith, l))
front_all f (suc k) [] l = refl
front_all f (suc k) (x ∷ xs) l = ap (λ ys. f x ∷ ys) (front_all f k xs (omega (arith, l)))

pub still_long : (f : ℕ → ℕ) (k : ℕ) (xs now : List ℕ) → IsFront f k xs now → length now ≡ length xs
still_long f k xs now is = ap length is ∙ front_long f k xs

pub one_more : (f : ℕ → ℕ) (k : ℕ) (xs before now : List ℕ) (d value : ℕ) → IsFront f k xs before → value ≡ f (get_or before k d) → now ≡ set before k value → IsFront f (k + 1) xs now
one_more f k xs before now d value is so put =
    let next : suc k ≡ k + 1 = omega arith in
    put ∙ ap (set before k) so ∙ ap (λ ys. set ys k (f (get_or ys k d))) is ∙ front_next f k xs d ∙ ap (λ n. front f n xs) next

pub all_done : (f : ℕ → ℕ) (k : ℕ) (xs now : List ℕ) → IsFront f k xs now → length xs ≤ k → now ≡ map f xs
all_done f k xs now is l = is ∙ front_all f k xs l

-- ---- two cells that have one label: nothing is renamed

label_kept : (a l : ℕ) → renamed (a ∷ a ∷ []) l ≡ l
label_kept a l = by (a == l) refl
  where
    by : (c : Bool) → (a == l) ≡ c → cond (c || (c || false)) (min a a) l ≡ l
    by true is = let k : a ≤ a = omega arith in min-eq_left k ∙ eqb-true a l is
    by false is = refl

labels_kept : (a : ℕ) (labels : List ℕ) → map (renamed (a ∷ a ∷ [])) labels ≡ labels
labels_kept a [] = refl
labels_kept a (l ∷ ls) = ap (λ x. x ∷ map (renamed (a ∷ a ∷ [])) ls) (label_kept a l) ∙ ap (λ xs. l ∷ xs) (labels_kept a ls)

pub tied_already : (first second : ℕ) (labels : List ℕ) → label_of labels first ≡ label_of labels second → labels ≡ relabeled (first ∷ second ∷ []) labels
tied_already first second labels same = sym (ap (λ o. map (renamed (label_of labels first ∷ o ∷ [])) labels) (sym same) ∙ labels_kept (label_of labels first) labels)

-- ---- rows of cells

-- the first with each from the k-th on
abbrev pub tied_from : ℕ → List ℕ → List ℕ → List ℕ
tied_from k cells labels = all_relabeled (map (λ d. get_or cells 0 0 ∷ d ∷ []) (drop k cells)) labels

pub all_tied : (cells labels : List ℕ) → tied_from 1 cells labels ≡ all_relabeled (pairs_of cells) labels
all_tied [] labels = refl
all_tied (c ∷ cs) labels = refl

dropped : (cells : List ℕ) (k d : ℕ) → k < length cells → drop k cells ≡ get_or cells k d ∷ drop (k + 1) cells
dropped [] k d l = absurd (omega (arith, l))
dropped (c ∷ cs) zero d l = refl
dropped (c ∷ cs) (suc k) d l = dropped cs k d (omega (arith, l)) ∙ ap (λ n. get_or cs k d ∷ drop n (c ∷ cs)) (let e : suc (k + 1) ≡ suc k + 1 = omega arith in e)

default : (xs : List ℕ) (i a b : ℕ) → i < length xs → get_or xs i a ≡ get_or xs i b
default [] i a b l = absurd (omega (arith, l))
default (x ∷ xs) zero a b l = refl
default (x ∷ xs) (suc i) a b l = default xs i a b (omega (arith, l))

pub tied_more : (cells : List ℕ) (k a b : ℕ) (before now end : List ℕ) → k < length cells → tied_from k cells before ≡ end → now ≡ relabeled (get_or cells 0 a ∷ get_or cells k b ∷ []) before → tied_from (k + 1) cells now ≡ end
tied_more cells k a b before now end l so is =
    ap (tied_from (k + 1) cells) (is ∙ ap (λ c. relabeled (c ∷ get_or cells k b ∷ []) before) (default cells 0 a 0 (omega (arith, l))))
    ∙ sym (ap (λ ds. all_relabeled (map (λ d. get_or cells 0 0 ∷ d ∷ []) ds) before) (dropped cells k b l)) ∙ so

pub none_tied : (cells : List ℕ) (k : ℕ) (labels : List ℕ) → length cells ≤ k → tied_from k cells labels ≡ labels
none_tied cells k labels l = ap (λ ds. all_relabeled (map (λ d. get_or cells 0 0 ∷ d ∷ []) ds) labels) (none_left cells k l)
  where
    none_left : (xs : List ℕ) (k : ℕ) → length xs ≤ k → drop k xs ≡ []
    none_left [] zero l = refl
    none_left [] (suc k) l = refl
    none_left (x ∷ xs) zero l = absurd (omega (arith, l))
    none_left (x ∷ xs) (suc k) l = none_left xs k (omega (arith, l))
