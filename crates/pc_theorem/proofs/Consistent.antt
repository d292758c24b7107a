-- Some colors meet the rules of the generated sheet.
use Rattle.std.proofs.Common.{◌≡◌, ℕ, zero, suc, ◌+◌, ◌*◌, ◌<◌, ◌≤◌, List, [], ◌∷◌, ◌++◌, Some, slice_get, replicate, refl, sym, ◌∙◌, ap, subst, arith}
use Rattle.std.proofs.lemmas.List.Elements.{All-from_recursion}
use Rattle.pc_sheet.specs.Sheet.{NamedStatement}
use Rattle.pc_sheet.specs.Sizes.{size_of, cell_number}
use Rattle.pc_sheet.specs.Truth.{Holds, value_or_first}
use Rattle.pc_sheet.specs.Entailment.{AreWithin, IsAssignment, Fits}
use Rattle.pc_sheet.specs.MaximalSets.{AreRulesConsistent}
use Rattle.pc_sheet.specs.declared.ids.ValueId.{ValueId}
use Rattle.pc_gen.specs.Sheet.{sort, generated_universe, chain, other, generated_sheet}
use Rattle.pc_gen.proofs.Formed.{block_size}

-- ---- colors

-- red in the first three slots and green in the last
abbrev color : ℕ → ValueId
color zero = record { 0 = 0 }
color (suc zero) = record { 0 = 0 }
color (suc (suc zero)) = record { 0 = 0 }
color (suc (suc (suc k))) = record { 0 = 1 }

abbrev colors : ℕ → List ValueId
colors zero = []
colors (suc n) = color 0 ∷ color 1 ∷ color 2 ∷ color 3 ∷ colors n

four_more : (n : ℕ) → suc n * 4 ≡ suc (suc (suc (suc (n * 4))))
four_more n = omega arith

within : (n : ℕ) → AreWithin (replicate (n * 4) 3 ++ []) (colors n)
within zero = tt
within (suc n) = subst (λ (m : ℕ). AreWithin (replicate m 3 ++ []) (colors (suc n))) (sym (four_more n)) (omega arith, (omega arith, (omega arith, (omega arith, within n))))

assigns : (n : ℕ) → 1 ≤ n → IsAssignment (generated_universe n) (colors n)
assigns n some = subst (λ (m : ℕ). AreWithin (replicate (m * 4) 3 ++ []) (colors n)) (sym (block_size n some)) (within n)

-- ---- where they stand

first_places : (n j : ℕ) → j < 4 → slice_get (colors (suc n)) j ≡ Some (color j)
first_places n zero below = refl
first_places n (suc zero) below = refl
first_places n (suc (suc zero)) below = refl
first_places n (suc (suc (suc zero))) below = refl
first_places n (suc (suc (suc (suc j)))) below = absurd (omega (arith, below))

in_first : (j : ℕ) → j ≡ 4 * zero + j
in_first j = omega arith

in_later : (v j : ℕ) → suc (suc (suc (suc (4 * v + j)))) ≡ 4 * suc v + j
in_later v j = omega arith

placed : (n v j : ℕ) → v < n → j < 4 → slice_get (colors n) (4 * v + j) ≡ Some (color j)
placed zero v j below slot = absurd (omega (arith, below))
placed (suc n) zero j below slot = subst (λ (k : ℕ). slice_get (colors (suc n)) k ≡ Some (color j)) (in_first j) (first_places n j slot)
placed (suc n) (suc v) j below slot = subst (λ (k : ℕ). slice_get (colors (suc n)) k ≡ Some (color j)) (in_later v j) (placed n v j (omega (arith, below)) slot)

abbrev slot_cell : ℕ → ValueId → ℕ → ℕ
slot_cell n v j = cell_number (generated_universe n) (record { 0 = 0 }) (v ∷ record { 0 = j } ∷ [])

cell_is : (n : ℕ) (v : ValueId) (j : ℕ) → 4 * v.0 + j ≡ slot_cell n v j
cell_is n v j = omega arith

value_is : (n : ℕ) (v : ValueId) (j : ℕ) → v.0 < n → j < 4 → value_or_first (slice_get (colors n) (slot_cell n v j)) ≡ color j
value_is n v j below slot = ap value_or_first (subst (λ (k : ℕ). slice_get (colors n) k ≡ Some (color j)) (cell_is n v j) (placed n v.0 j below slot))

-- ---- the rules

red_isnt_green : color 2 ≡ color 3 → ⊥
red_isnt_green e = let n : 0 ≡ 1 = ap (λ (v : ValueId). v.0) e in omega (arith, n)

module _ (n : ℕ) (some : 1 ≤ n) where
  below_count : (v : ValueId) → v.0 < size_of (generated_universe n) (sort 0) → v.0 < n
  below_count v below = subst (λ (m : ℕ). v.0 < m) (block_size n some) below

  chain_holds : Holds (generated_universe n) (colors n) [] chain.states
  chain_holds v below =
      let is = below_count v below in
      ((refl, value_is n v 0 is (omega arith) ∙ sym (value_is n v 1 is (omega arith))), ((refl, value_is n v 1 is (omega arith) ∙ sym (value_is n v 2 is (omega arith))), tt))

  other_holds : Holds (generated_universe n) (colors n) [] other.states
  other_holds v below =
      let is = below_count v below in
      (refl, λ same. red_isnt_green (sym (value_is n v 2 is (omega arith)) ∙ same ∙ value_is n v 3 is (omega arith)))

  fits : Fits (generated_sheet n) (colors n)
  fits = All-from_recursion (λ (rule : NamedStatement). Holds (generated_universe n) (colors n) [] rule.states) (chain ∷ other ∷ []) (chain_holds, (other_holds, tt))

  pub consistent : AreRulesConsistent (generated_sheet n)
  consistent = (colors n, assigns n some, fits)
