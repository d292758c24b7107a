-- The children of a counting quantifier, by their numbers.
use Rattle.std.proofs.Common.{◌≡◌, ℕ, zero, suc, ◌+◌, ◌-◌, ◌*◌, ◌/◌, ◌%◌, ◌<◌, ◌≤◌, inl, inr, true, false, cond, nat_lt, List, [], ◌∷◌, ◌++◌, None, Some, arith, ap, ◌∙◌}
use Rattle.std.proofs.lemmas.Bool.{cases_Bool}
use Rattle.std.proofs.lemmas.Bool.Decides.{Decides-ltb}
use Rattle.std.proofs.lemmas.Nat.{div-mul-add, mod-mul-add}
use Rattle.std.proofs.Math.Nat.{div-lt_iff_lt-mul, mod-lt}
use Rattle.pc_sheet.specs.Sheet.{Statement, of_first, counts}
use Rattle.pc_sheet.specs.Truth.{Scope}
use Rattle.pc_sheet.specs.Nodes.{counter_child, counted_child, counter_number, CountersArePlaced}
use Rattle.pc_sheet.specs.declared.ids.SortId.{SortId}

pub test_true : (k n : ℕ) → k < n → nat_lt k n ≡ true
test_true k n l = (Decides-ltb k n).1 l

pub test_false : (k n : ℕ) → n ≤ k → nat_lt k n ≡ false
test_false k n l = elim (cases_Bool (nat_lt k n)) [ inl is ↦ absurd (let below = (Decides-ltb k n).0 is in omega arith) | inr is ↦ is ]

pub row_below : (i j n m : ℕ) → i < n → j < m → i * m + j < n * m
row_below i j zero m l k = absurd (omega arith)
row_below i j (suc n) m l k = omega (arith, le_times i n m (omega arith))
  where
    le_times : (i n m : ℕ) → i ≤ n → i * m ≤ n * m
    le_times zero n m l = omega arith
    le_times (suc i) zero m l = absurd (omega arith)
    le_times (suc i) (suc n) m l = let rest = le_times i n m (omega arith) in omega arith

pub quotient_below : (q n m : ℕ) → q < n * m → (q / m < n) × (q % m < m)
quotient_below q n zero l = absurd (omega arith)
quotient_below q n (suc m) l = ((div-lt_iff_lt-mul {x = q} {y = n} (omega arith)).1 l, mod-lt q (omega arith))

module _ (scope : Scope) (n m : ℕ) (name : List ℕ) (s : SortId) (body : Statement) where
  pub body_child : (k : ℕ) → k < n → counted_child scope n m name s body k ≡ Some (scope ++ (s, record { 0 = k }) ∷ [], body)
  body_child k l = ap (λ b. cond b (Some (scope ++ (s, record { 0 = k }) ∷ [], body)) (counter_child scope n m name s body (k - n))) (test_true k n l)

  pub later_child : (k : ℕ) → n ≤ k → counted_child scope n m name s body k ≡ counter_child scope n m name s body (k - n)
  later_child k l = ap (λ b. cond b (Some (scope ++ (s, record { 0 = k }) ∷ [], body)) (counter_child scope n m name s body (k - n))) (test_false k n l)

  pub counter_there : (q : ℕ) → q < n * m → counter_child scope n m name s body q ≡ Some (scope, counts (of_first m (suc (q / m)) (suc (q % m))) name s body)
  counter_there q l = ap (λ b. cond b (Some (scope, counts (of_first m (suc (q / m)) (suc (q % m))) name s body)) None) (test_true q (n * m) l)

pub number_is : (n m i j : ℕ) → counter_number n m (suc i) (suc j) ≡ n + (i * m + j)
number_is n m i j = let one : suc i - 1 ≡ i = omega arith in let times : (suc i - 1) * m ≡ i * m = ap (λ x. x * m) one in omega arith

pub placed : CountersArePlaced
placed scope n m name s body i j l k =
    let q = i * m + j in
    let is = number_is n m i j in
    let here : n + q - n ≡ q = omega arith in
    ap (counted_child scope n m name s body) is
    ∙ later_child scope n m name s body (n + q) (omega arith)
    ∙ ap (counter_child scope n m name s body) here
    ∙ counter_there scope n m name s body q (row_below i j n m l k)
    ∙ ap (λ x. Some (scope, counts (of_first m (suc x) (suc (q % m))) name s body)) (div-mul-add i m j k)
    ∙ ap (λ x. Some (scope, counts (of_first m (suc i) (suc x)) name s body)) (mod-mul-add i m j k)
