-- What searches may keep, by the numbers alone that are told of them.
use Rattle.std.proofs.Common.{◌≡◌, ℕ, zero, suc, ◌+◌, ◌*◌, ◌<◌, ◌≤◌, List, [], ◌∷◌, length, get_or, map, sum_by, All, arith, ap, refl, ◌∙◌}
use Rattle.std.proofs.lemmas.List.{get_or-map, length-map}
use Rattle.std.proofs.lemmas.List.Sums.{sum_by-cons}
use Rattle.std.proofs.lemmas.Nat.{mul-le}
use Rattle.std.proofs.lemmas.Option.{get_or_from_slice_get}
use Rattle.pc_ground.specs.Variables.{variable_count}
use Rattle.pc_parts.specs.Components.{parts_of}
use Rattle.pc_components.specs.PartAxioms.{AreAxiomsOf}
use Rattle.pc_components.specs.View.{Kept}
use Rattle.pc_search.specs.Found.{search_bytes}
use Rattle.pc_theory.specs.KeptBytes.{part_bytes}
use Rattle.pc_theory.specs.Spendings.{learned_of, calls_of}
use Rattle.pc_theory.specs.Theories.{rules_alone}
use Rattle.pc_theory.specs.declared.spending.PartSpending.{PartSpending}
use Rattle.pc_theory.proofs.Lists.{at_within, within_at, zip_at, zip_length}
use Rattle.pc_enough_laws.specs.Bytes.{SpentBytesAreBounded, WorkedBytes, IsOfWork, unlike_parts}
use Rattle.pc_enough_laws.specs.Enough.{amounts_of}
use Rattle.pc_enough_laws.proofs.Summed.{itself, Fits, spread}
use Rattle.pc_enough_laws.proofs.Whole.{Bounded, all_bounded}

lengths_summed : {X : Type 0} (xs : List (List X)) → sum_by itself (map length xs) ≡ sum_by length xs
lengths_summed [] = refl
lengths_summed (x ∷ xs) = omega (arith, sum_by-cons itself (length x) (map length xs), sum_by-cons length x xs, lengths_summed xs)

more_steps : (a x y : ℕ) → x ≤ y → 16 * a + x ≤ 16 * a + y
more_steps a x y up = omega (arith, up)

added_up : (m a b v w one more first rest total : ℕ) → one ≤ 16 * a + m * v → more ≤ 16 * b + m * w → first ≡ a + b → rest ≡ v + w → total ≡ one + more → total ≤ 16 * first + m * rest
added_up m a b v w one more first rest total here there axioms work both =
    let split : m * (v + w) ≡ m * v + m * w = omega arith in
    let moved : m * rest ≡ m * (v + w) = ap (λ n. m * n) work in
    omega (arith, here, there, axioms, both, split, moved)

within_whole : (m a b v w total : ℕ) → total ≤ 16 * a + m * v → a ≤ b → m * v ≤ m * w → total ≤ 16 * b + m * w
within_whole m a b v w total few axioms work = omega (arith, few, axioms, work)

-- ---- each part within the whole

module _ (kept : Kept) where
  abbrev axioms_at : PartSpending → ℕ
  axioms_at x = length (get_or kept.axioms x.part [])

  module _ (most : ℕ) where
    abbrev HasFew : PartSpending → Type 0
    HasFew x = length (get_or kept.variables x.part []) ≤ most

    one_less : (x : PartSpending) → HasFew x → part_bytes kept x ≤ 16 * axioms_at x + (24 + 8 * most) * (learned_of x + calls_of x)
    one_less x few =
        let own = length (get_or kept.variables x.part []) in
        let steps = learned_of x + calls_of x in
        let up : 24 + 8 * own ≤ 24 + 8 * most = omega (arith, few) in
        more_steps (axioms_at x) ((24 + 8 * own) * steps) ((24 + 8 * most) * steps) (mul-le (24 + 8 * own) steps (24 + 8 * most) steps up (omega arith))

    all_less : (xs : List PartSpending) → All HasFew xs → sum_by (part_bytes kept) xs ≤ 16 * sum_by axioms_at xs + (24 + 8 * most) * (sum_by learned_of xs + sum_by calls_of xs)
    all_less [] all = omega arith
    all_less (x ∷ xs) all =
        let here = one_less x (all zero x (omega arith)) in
        let rest = all_less xs (λ k d l. all (suc k) d (omega (arith, l))) in
        let steps : sum_by learned_of (x ∷ xs) + sum_by calls_of (x ∷ xs) ≡ learned_of x + calls_of x + (sum_by learned_of xs + sum_by calls_of xs) = omega (arith, sum_by-cons learned_of x xs, sum_by-cons calls_of x xs) in
        added_up (24 + 8 * most) (axioms_at x) (sum_by axioms_at xs) (learned_of x + calls_of x) (sum_by learned_of xs + sum_by calls_of xs) (part_bytes kept x) (sum_by (part_bytes kept) xs) (sum_by axioms_at (x ∷ xs))
        (sum_by learned_of (x ∷ xs) + sum_by calls_of (x ∷ xs)) (sum_by (part_bytes kept) (x ∷ xs)) here rest (sum_by-cons axioms_at x xs) steps (sum_by-cons (part_bytes kept) x xs)

pub bytes_bounded : SpentBytesAreBounded
bytes_bounded sheet formed touched kept are s of learns =
    let parts = parts_of (rules_alone sheet) in
    let items = s.parts.items in
    let most = variable_count sheet in
    let number : PartSpending → ℕ = λ x. x.part in
    let costs = map length kept.axioms in
    let many = zip_length (AreAxiomsOf (rules_alone sheet)) parts kept.axioms are.axioms in
    let fits : All (Fits number (axioms_at kept) costs) items = λ k d l.
    let x = get_or items k d in
    let on = of.each k d l in
    let below : x.part < length kept.axioms = omega (arith, many, at_within parts x.part on.part on.numbered) in
    (omega (arith, below, length-map kept.axioms length), omega (arith, get_or-map length kept.axioms x.part [] 0 below)) in
    let few : All (HasFew kept most) items = λ k d l.
    let x = get_or items k d in
    let on = of.each k d l in
    let some = at_within parts x.part on.part on.numbered in
    let same = zip_length (λ part own. Bounded sheet formed kept are (amounts_of sheet part own)) parts kept.variables (all_bounded sheet formed kept are) in
    let own = within_at kept.variables x.part (omega (arith, some, same)) in
    let fit = zip_at (λ part vars. Bounded sheet formed kept are (amounts_of sheet part vars)) parts kept.variables x.part on.part own.0 (all_bounded sheet formed kept are) on.numbered own.1 in
    let is : length (get_or kept.variables x.part []) ≡ length own.0 = ap length (get_or_from_slice_get kept.variables x.part own.0 [] own.1) in
    let less : length own.0 ≤ most = omega (arith, fit.1, some) in
    omega (arith, is, less) in
    let steps = sum_by learned_of items + sum_by calls_of items in
    let work : steps ≤ s.tally.placed + 2 * s.tally.calls = omega (arith, of.learned, of.calls, learns) in
    let axioms : sum_by (axioms_at kept) items ≤ sum_by length kept.axioms = omega (arith, spread number (axioms_at kept) items costs of.different fits, lengths_summed kept.axioms) in
    within_whole (24 + 8 * most) (sum_by (axioms_at kept) items) (sum_by length kept.axioms) steps (s.tally.placed + 2 * s.tally.calls) (sum_by (part_bytes kept) items) (all_less kept most items few) axioms
    (mul-le (24 + 8 * most) steps (24 + 8 * most) (s.tally.placed + 2 * s.tally.calls) (omega arith) work)

-- ---- two parts

part_of_work : (p : PartSpending) (part learned calls : ℕ) → IsOfWork p part learned calls
    → part_bytes unlike_parts p ≡ search_bytes (length (get_or unlike_parts.axioms part [])) (length (get_or unlike_parts.variables part [])) (learned + calls)
part_of_work p part learned calls is =
    let steps : p.tally.learned + p.tally.calls ≡ learned + calls = omega (arith, is.learned_is, is.calls_is) in
    ap (λ n. search_bytes (length (get_or unlike_parts.axioms n [])) (length (get_or unlike_parts.variables n [])) (p.tally.learned + p.tally.calls)) is.number
    ∙ ap (λ n. search_bytes (length (get_or unlike_parts.axioms part [])) (length (get_or unlike_parts.variables part [])) n) steps

first_bytes : (p : PartSpending) → IsOfWork p 0 1 2 → part_bytes unlike_parts p ≡ 152
first_bytes p is = part_of_work p 0 1 2 is

second_bytes : (p : PartSpending) → IsOfWork p 1 0 1 → part_bytes unlike_parts p ≡ 80
second_bytes p is = part_of_work p 1 0 1 is

pub bytes_hold : WorkedBytes
bytes_hold = record {
  one_part = λ s p are is. ap (sum_by (part_bytes unlike_parts)) are ∙ omega (arith, sum_by-cons (part_bytes unlike_parts) p [], first_bytes p is);
  both_parts = λ s p q are is and.
      ap (sum_by (part_bytes unlike_parts)) are
      ∙ omega (arith, sum_by-cons (part_bytes unlike_parts) p (q ∷ []), sum_by-cons (part_bytes unlike_parts) q [], first_bytes p is, second_bytes q and);
  by_counts = refl;
}
