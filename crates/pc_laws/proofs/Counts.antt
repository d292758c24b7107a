-- Counts by lists of different values, and counts of the same values.
use Rattle.std.proofs.Common.{◌≡◌, ℕ, zero, suc, ◌<◌, ◌≤◌, ◌⊎◌, ◌↔◌, inl, inr, List, [], ◌∷◌, ◌++◌, length, arith, refl, ap, sym, ◌∙◌, subst}
use Rattle.std.proofs.lemmas.Bool.{cases_eq}
use Rattle.pc_sheet.specs.Sheet.{Counting, no_more_than, no_fewer_than, of_first}
use Rattle.pc_sheet.specs.Truth.{AtLeast, CountHolds, asked_of, Holds}
use Rattle.pc_sheet.specs.WellSorted.{IsBound}
use Rattle.pc_sheet.specs.declared.ids.ValueId.{ValueId}
use Rattle.pc_lemmas.proofs.Equivalences.{either}
use Rattle.pc_laws.specs.Counts.{ArePicked, ArePickedFrom, CountsAreOfDifferentValues}

-- ---- picked values

module _ (P : ValueId → Type 0) where
  picked_more : (i k : ℕ) (vs : List ValueId) → i ≤ k → ArePicked P i vs → ArePicked P k vs
  picked_more i k [] l h = tt
  picked_more i k (v ∷ vs) l h = (omega (arith, h.0), h.1, h.2)

  to_picked : (i j : ℕ) → AtLeast P i j → ArePickedFrom P i j
  to_picked i zero h = ([], refl, tt)
  to_picked zero (suc j) h = absurd h
  to_picked (suc i) (suc j) (inl h) = let rest = to_picked i (suc j) h in (rest.0, rest.1, picked_more i (suc i) rest.0 (omega arith) rest.2)
  to_picked (suc i) (suc j) (inr h) =
      let rest = to_picked i j h.0 in
      (record { 0 = i } ∷ rest.0, ap suc rest.1, (omega arith, h.1, rest.2))

  of_picked : (i j : ℕ) (vs : List ValueId) → length vs ≡ j → ArePicked P i vs → AtLeast P i j
  of_picked i zero vs e h = tt
  of_picked i (suc j) [] e h = absurd (omega (arith, e))
  of_picked zero (suc j) (v ∷ vs) e h = absurd (omega (arith, h.0))
  of_picked (suc i) (suc j) (v ∷ vs) e h = elim (cases_eq v.0 i) [
    | inl same ↦
        let last : ℕ → Type 0 = λ k. P (record { 0 = k }) × ArePicked P k vs in
        let here = subst last same (h.1, h.2) in
        inr (of_picked i j vs (omega (arith, e)) here.1, here.0)
    | inr other ↦ inl (of_picked i (suc j) (v ∷ vs) e (omega (arith, h.0), h.1, h.2))
  ]

pub different_values : CountsAreOfDifferentValues
different_values u a scope s body i j =
    let P : ValueId → Type 0 = λ v. Holds u a (scope ++ (s, v) ∷ []) body in
    (to_picked P i j, λ h. of_picked P i j h.0 h.1 h.2)

-- ---- the same values

module _ (P Q : ValueId → Type 0) where
  pub at_least_same : (i j : ℕ) → ((v : ValueId) → v.0 < i → P v ↔ Q v) → AtLeast P i j ↔ AtLeast Q i j
  at_least_same i zero h = (λ t. t, λ t. t)
  at_least_same zero (suc j) h = (λ t. t, λ t. t)
  at_least_same (suc i) (suc j) h =
      let before = at_least_same i (suc j) (λ v l. h v (omega arith)) in
      let fewer = at_least_same i j (λ v l. h v (omega arith)) in
      let last = h (record { 0 = i }) (omega arith) in
      either before (λ t. (fewer.0 t.0, last.0 t.1), λ t. (fewer.1 t.0, last.1 t.1))

  pub count_same : (c : Counting) (n : ℕ) → ((v : ValueId) → v.0 < asked_of c n → P v ↔ Q v) → CountHolds c P n ↔ CountHolds c Q n
  count_same (no_more_than k) n h = let i = at_least_same n (suc k) h in (λ f t. f (i.1 t), λ f t. f (i.0 t))
  count_same (no_fewer_than k) n h = at_least_same n k h
  count_same (of_first m i j) n h = at_least_same i j h

-- what a formula counts is asked of each value
pub all_asked : (c : Counting) (n : ℕ) → IsBound c → asked_of c n ≡ n
all_asked (no_more_than k) n h = refl
all_asked (no_fewer_than k) n h = refl
all_asked (of_first m i j) n h = absurd h
