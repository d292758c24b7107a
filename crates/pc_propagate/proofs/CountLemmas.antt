-- How many places are in a list.
use Rattle.std.proofs.Common.{◌≡◌, ℕ, ◌+◌, ◌<◌, ◌≤◌, List, [], ◌∷◌, Option, Some, None, length, get_or, set, cond, count_by, true, false, Bool, refl, ap, ◌∙◌, arith, eqb, suc, zero}
use Rattle.std.proofs.lemmas.Bool.{eqb-true, eq-eqb}
use Rattle.std.proofs.lemmas.List.Sums.{sum_by-set, sum_by-append}

pub is_in : ℕ → Option ℕ → Bool
is_in list None = false
is_in list (Some n) = eqb n list

abbrev pub count_in : ℕ → List (Option ℕ) → ℕ
count_in list lists = count_by (is_in list) lists

in_from : (list : ℕ) (o : Option ℕ) → o ≡ Some list → is_in list o ≡ true
unfolding is_in
in_from list o is = rw is (eq-eqb list list refl)

from_in : (list : ℕ) (o : Option ℕ) → is_in list o ≡ true → o ≡ Some list
unfolding is_in
from_in list None is = absurd (cc is)
from_in list (Some n) is = ap Some (eqb-true n list is)

pub count_taken : (list : ℕ) (lists : List (Option ℕ)) (place : ℕ) → place < length lists → get_or lists place None ≡ Some list → count_in list (set lists place None) < count_in list lists
unfolding is_in
count_taken list lists place within at =
    let one : Option ℕ → ℕ = λ o. cond (is_in list o) 1 0 in
    let step = sum_by-set one lists place None None within in
    let was : one (get_or lists place None) ≡ 1 = ap one at ∙ ap (λ (b : Bool). (let n : ℕ = cond b 1 0 in n)) (eq-eqb list list refl) in
    omega (arith, step, was)

-- a list has no more places where none is new in it
pub count_no_more : (list : ℕ) (xs ys : List (Option ℕ)) → length xs ≡ length ys → ((k : ℕ) → get_or ys k None ≡ Some list → get_or xs k None ≡ Some list) → count_in list ys ≤ count_in list xs
count_no_more list [] [] size h = omega arith
count_no_more list [] (y ∷ ys) size h = absurd (omega (arith, size))
count_no_more list (x ∷ xs) [] size h = absurd (omega (arith, size))
count_no_more list (x ∷ xs) (y ∷ ys) size h =
    let rest = count_no_more list xs ys (omega (arith, size)) (λ k at. h (suc k) at) in
    let first = head_less (is_in list y) (is_in list x) (λ is. in_from list x (h zero (from_in list y is))) in
    let ys_is : count_in list (y ∷ ys) ≡ cond (is_in list y) 1 0 + count_in list ys = omega (arith, sum_by-append (λ o. cond (is_in list o) 1 0) (y ∷ []) ys) in
    let xs_is : count_in list (x ∷ xs) ≡ cond (is_in list x) 1 0 + count_in list xs = omega (arith, sum_by-append (λ o. cond (is_in list o) 1 0) (x ∷ []) xs) in
    omega (arith, rest, first, ys_is, xs_is)
  where
    head_less : (a b : Bool) → (a ≡ true → b ≡ true) → cond a 1 0 ≤ cond b 1 0
    head_less true b imp = rw (imp refl) (omega arith)
    head_less false b imp = omega arith
