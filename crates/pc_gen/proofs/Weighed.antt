-- What the generated sheet weighs.
use Rattle.std.proofs.Common.{◌≡◌, ℕ, zero, suc, ◌<◌, ◌≤◌, ◌+◌, ◌*◌, ◌==◌, Bool, false, List, [], ◌∷◌, ◌++◌, Some, slice_get, slice_index_or, replicate, sum_by, arith, refl, ap, ap₂, ◌∙◌, append-nil, suc-mul}
use Rattle.std.proofs.lemmas.Bool.Decides.{nat_tests}
use Rattle.std.proofs.lemmas.List.Folds.{sum_by-replicate}
use Rattle.std.proofs.lemmas.List.Sums.{sum_by-append}
use Rattle.pc_name.specs.declared.sign.Op.{Op}
use Rattle.pc_name.specs.declared.sign.Op.TheVariants.{Eq, Ne}
use Rattle.pc_sheet.specs.Sheet.{no_statements, statement, compare, all_of}
use Rattle.pc_sheet.specs.Truth.{Scope}
use Rattle.pc_sheet.specs.Sizes.{size_of}
use Rattle.pc_sheet.specs.Entailment.{cell_sizes}
use Rattle.pc_sheet.specs.Cells.{values_below}
use Rattle.pc_sheet.specs.Readings.{known, ask, compares, leaves_from}
use Rattle.pc_sheet.specs.Weight.{weight, leaf_weight, node_weight, rule_weight, cell_weight}
use Rattle.pc_sheet.specs.declared.meaning.Meaning.TheVariants.{Value}
use Rattle.pc_sheet.specs.declared.ids.ValueId.{ValueId}
use Rattle.pc_gen.specs.Sheet.{sort, generated_universe, in_slot, same, chain, other, generated_sheet}
use Rattle.pc_gen.proofs.Formed.{block_size, size_at}

-- two cells of three values have nine leaves of two reads each
two_cells : (sizes : List ℕ) (c d : ℕ) (f : ValueId → ValueId → Bool) → slice_index_or sizes c 0 ≡ 3 → slice_index_or sizes d 0 ≡ 3 → (c == d) ≡ false
    → sum_by leaf_weight (leaves_from sizes (ask c (λ v. ask d (λ w. known (f v w)))) []) ≡ 27
two_cells sizes c d f first second apart = rw (first, apart, second) refl

index_is : (xs : List ℕ) (i x : ℕ) → slice_get xs i ≡ Some x → slice_index_or xs i 0 ≡ x
index_is [] i x h = absurd (cc)
index_is (y ∷ ys) zero x h = cc
index_is (y ∷ ys) (suc i) x h = index_is ys i x h

-- as many times the same
sum_same : (f : ValueId → ℕ) (w m : ℕ) → ((v : ValueId) → v.0 < m → f v ≡ w) → sum_by f (values_below m) ≡ m * w
sum_same f w zero each = omega arith
sum_same f w (suc m) each =
    let front = sum_same f w m (λ v below. each v (omega (arith, below))) in
    let last = each (record { 0 = m }) (omega arith) in
    let parts = sum_by-append f (values_below m) (record { 0 = m } ∷ []) in
    omega (arith, front, last, parts, suc-mul m w)

-- a quantified statement as a rule, where its body weighs the same for each value
quantified : (f : ValueId → ℕ) (w m n : ℕ) → m ≡ n → ((v : ValueId) → v.0 < n → f v ≡ w) → 1 + (3 * m + 1 + sum_by f (values_below m)) ≡ 2 + 3 * n + n * w
quantified f w m n size each =
    let here = ap (λ k. sum_by f (values_below k)) size in
    let sum = sum_same f w n each in
    omega (arith, here, sum, size)

cells : (m : ℕ) → sum_by cell_weight (replicate (m * 4) 3 ++ []) ≡ 36 * m
cells m = ap (sum_by cell_weight) (append-nil (replicate (m * 4) 3)) ∙ sum_by-replicate cell_weight (m * 4) 3 ∙ omega arith

module _ (n : ℕ) (some : 1 ≤ n) where
  abbrev within : ValueId → Scope
  within v = (sort 0, v) ∷ []

  size : (c : ℕ) → c < 4 * n → slice_index_or (cell_sizes (generated_universe n)) c 0 ≡ 3
  size c inside = index_is (cell_sizes (generated_universe n)) c 3 (size_at n some c inside)

  -- the number of a block's cell, as it is read
  abbrev number : ValueId → ℕ → ℕ
  number v k = 0 + ((0 * size_of (generated_universe n) (sort 0) + v.0) * 4 + k)

  atom : (v : ValueId) (j k : ℕ) (op : Op) → v.0 < n → j < 4 → k < 4 → (j == k) ≡ false → node_weight (generated_universe n) (within v) (compare (in_slot j) op (in_slot k)) ≡ 27
  atom v j k op below first second differ =
      let apart : (number v j == number v k) ≡ false = grind (arith, nat_tests) in
      two_cells (cell_sizes (generated_universe n)) (number v j) (number v k) (λ x y. compares op (Value (sort 2) x) (Value (sort 2) y))
      (size (number v j) (omega (arith, below, first))) (size (number v k) (omega (arith, below, second))) apart

  chain_body : (v : ValueId) → v.0 < n → node_weight (generated_universe n) (within v) (all_of (statement (same 0 1) (statement (same 1 2) no_statements))) ≡ 61
  chain_body v below =
      let first = atom v 0 1 Eq below (omega arith) (omega arith) refl in
      let second = atom v 1 2 Eq below (omega arith) (omega arith) refl in
      omega (arith, first, second)

  chain_weight : rule_weight (generated_universe n) chain ≡ 2 + 3 * n + n * 61
  chain_weight = quantified (λ v. node_weight (generated_universe n) (within v) (all_of (statement (same 0 1) (statement (same 1 2) no_statements)))) 61 (size_of (generated_universe n) (sort 0)) n (block_size n some) chain_body

  other_weight : rule_weight (generated_universe n) other ≡ 2 + 3 * n + n * 27
  other_weight = quantified (λ v. node_weight (generated_universe n) (within v) (compare (in_slot 2) Ne (in_slot 3))) 27 (size_of (generated_universe n) (sort 0)) n (block_size n some) (λ v below. atom v 2 3 Ne below (omega arith) (omega arith) refl)

  cells_weight : sum_by cell_weight (cell_sizes (generated_universe n)) ≡ 36 * n
  cells_weight = cells (size_of (generated_universe n) (sort 0)) ∙ ap (λ m. 36 * m) (block_size n some)

  pub weighs : weight (generated_sheet n) ≡ 130 * n + 4
  weighs =
      let all = ap₂ (λ (a b : ℕ). a + b) cells_weight (ap₂ (λ (a b : ℕ). 0 + a + b) chain_weight other_weight) in
      let sum : 36 * n + (0 + (2 + 3 * n + n * 61) + (2 + 3 * n + n * 27)) ≡ 130 * n + 4 = omega arith in
      all ∙ sum
