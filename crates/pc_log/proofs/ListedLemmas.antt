-- Where a place stands in a rising list, by halving.
use Rattle.std.proofs.Common.{◌≡◌, ℕ, ◌<◌, ◌≤◌, ◌⊎◌, inl, inr, List, length, get_or, ap, ◌∙◌, arith, Contains}
use Rattle.std.specs.List.Sorted.{IsStrictlyIncreasing}
use Rattle.std.proofs.lemmas.Bool.{cases_lt}
use Rattle.std.proofs.lemmas.List.{get_or_default}
use Rattle.pc_log.specs.Sparse.{index_of}
use Rattle.pc_log.proofs.AppendLemmas.{index_is, rises}

pub stands_within : (places : List ℕ) (p : ℕ) → IsStrictlyIncreasing places → Contains places p → (index_of p places < length places) × (get_or places (index_of p places) 0 ≡ p)
stands_within places p rise has =
    let is = index_is places p (rises places rise) has in (
      omega (arith, is, has.1),
      ap (λ (k : ℕ). get_or places k 0) is ∙ get_or_default places has.0 0 p has.1 ∙ has.2,
    )

-- the place stands at `next` or behind it, and where that isn't the middle, before the middle
pub halved : (places : List ℕ) (p base middle next : ℕ) → IsStrictlyIncreasing places → Contains places p → ((next ≡ middle) × (get_or places middle 0 ≤ p)) ⊎ ((next ≡ base) × (p < get_or places middle 0))
    → base ≤ index_of p places → middle < length places → (next ≤ index_of p places) × ((next ≡ middle) ⊎ ((next ≡ base) × (index_of p places < middle)))
halved places p base middle next rise has (inl (is, low)) from within =
    let there = stands_within places p rise has in
    elim (cases_lt (index_of p places) middle) [
      | inl before ↦ absurd (omega (arith, rises places rise (index_of p places) middle 0 before within, there.1, low))
      | inr behind ↦ (omega (arith, is, behind), inl is)
    ]
halved places p base middle next rise has (inr (is, high)) from within =
    let there = stands_within places p rise has in
    elim (cases_lt (index_of p places) middle) [
      | inl before ↦ (omega (arith, is, from), inr (is, before))
      | inr behind ↦
          elim (cases_lt middle (index_of p places)) [
            | inl after ↦ absurd (omega (arith, rises places rise middle (index_of p places) 0 after there.0, there.1, high))
            | inr not_after ↦
                let same : index_of p places ≡ middle = omega (arith, behind, not_after) in
                absurd (omega (arith, ap (λ (k : ℕ). get_or places k 0) same, there.1, high))
          ]
    ]
