-- Products that are cut at one more than the most.
use Rattle.std.proofs.Common.{◌≡◌, ℕ, zero, suc, ◌+◌, ◌*◌, ◌<◌, ◌≤◌, inl, inr, List, [], ◌∷◌, drop, length, get_or, map, arith, ap, refl, sym, ◌∙◌, subst}
use Rattle.std.proofs.lemmas.Bool.{cases_lt}
use Rattle.std.proofs.lemmas.Nat.{mul-le}
use Rattle.std.proofs.lemmas.List.{drop_all, drop_more}
use Rattle.std.proofs.Math.Nat.{mul_assoc}
use Rattle.pc_sheet.specs.Sizes.{product}
use Rattle.pc_repairs.specs.inside.Joining.{IsCapped, many_sets}
use Rattle.pc_repairs.specs.declared.part_sets.PartSets.{PartSets}

pub capped_more : (count total n next : ℕ) → IsCapped count total → IsCapped next (count * n) → IsCapped next (total * n)
capped_more count total n next c d = elim (cases_lt 64 total) [
  | inl more ↦
      let is : count ≡ 65 = c.more more in
      let e : IsCapped next (65 * n) = subst (λ k. IsCapped next (k * n)) is d in
      record {
        few = λ low. let none : n ≡ 0 = none_of n low more in omega (arith, e.few (omega (arith, none)), none, ap (λ k. total * k) none);
        more = λ high. e.more (let some = some_of n high in omega (arith, some));
      }
  | inr few ↦ let is : count ≡ total = c.few (omega (arith, few)) in subst (λ k. IsCapped next (k * n)) is d
]
  where
    none_of : (m : ℕ) → total * m ≤ 64 → 64 < total → m ≡ 0
    none_of zero low more = refl
    none_of (suc m) low more = let least = mul-le total 1 total (suc m) (omega arith) (omega arith) in absurd (omega (arith, least, low, more))

    some_of : (m : ℕ) → 64 < total * m → 1 ≤ m
    some_of zero high = absurd (omega (arith, high))
    some_of (suc m) high = omega arith

abbrev Counted : ℕ → ℕ → List PartSets → Type 0
Counted count i parts = (total : ℕ) × IsCapped count total × (total * product (map many_sets (drop i parts)) ≡ product (map many_sets parts))

pub counted_more : (parts : List PartSets) (i : ℕ) (d : PartSets) (count next : ℕ) → i < length parts → Counted count i parts → IsCapped next (count * many_sets (get_or parts i d)) → Counted next (i + 1) parts
counted_more parts i d count next below (total, c, is) e =
    let n = many_sets (get_or parts i d) in
    let rest = product (map many_sets (drop (i + 1) parts)) in (
      total * n,
      capped_more count total n next c e,
      mul_assoc total n rest ∙ (ap (λ ps. total * product (map many_sets ps)) (sym (drop_more parts i d below)) ∙ is),
    )

pub counted_all : (parts : List PartSets) (i count : ℕ) → length parts ≤ i → Counted count i parts → IsCapped count (product (map many_sets parts))
counted_all parts i count past (total, c, is) = subst (IsCapped count) (let one : total ≡ total * 1 = omega arith in one ∙ (ap (λ ps. total * product (map many_sets ps)) (sym (drop_all i parts past)) ∙ is)) c
