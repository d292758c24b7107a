-- What a tally may say.
use Rattle.std.proofs.Common.{◌≡◌, ◌≢◌, ℕ, zero, suc, ◌+◌, ◌*◌, ◌<◌, ◌≤◌, true, cond, List, [], ◌∷◌, length, get_or, map, sum_by, All, Contains, Option, Some, slice_get, arith, ap, refl, sym, ◌∙◌, subst}
use Rattle.std.specs.Prelude.{AllPairs}
use Rattle.std.proofs.lemmas.Nat.{mul-le}
use Rattle.std.proofs.lemmas.List.Sums.{sum_by-cons}
use Rattle.pc_lits.specs.declared.literal.Var.{Var}
use Rattle.pc_sheet.specs.Sheet.{Sheet}
use Rattle.pc_sheet.specs.WellFormed.{IsWellFormed}
use Rattle.pc_sheet.specs.declared.ids.CellId.{CellId}
use Rattle.pc_lemmas.proofs.Options.{same_some}
use Rattle.pc_ground.specs.Variables.{variable_count}
use Rattle.pc_parts.specs.Parts.{Part}
use Rattle.pc_parts.specs.Components.{parts_of}
use Rattle.pc_theory.specs.Spendings.{AreFewCalls, IsSpentOn, IsSpendingOf, placed_of, learned_of, calls_of}
use Rattle.pc_theory.specs.Theories.{rules_alone, IsPartNumbered}
use Rattle.pc_theory.specs.declared.spending.PartSpending.{PartSpending}
use Rattle.pc_theory.specs.declared.spending.Spending.{Spending}
use Rattle.pc_theory.proofs.Lists.{none_some, at_within, within_at, map_at, zip_at, zip_length}
use Rattle.pc_enough_laws.specs.Enough.{amounts_of, is_touched, sum_of_touched, most_learned, IsMostCalls}
use Rattle.pc_enough_laws.specs.Laws.{CountsAreBounded, EntryEditsSpendOnOnePart}
use Rattle.pc_enough_laws.proofs.Differing.{one_number}
use Rattle.pc_enough_laws.proofs.OfPart.{few_learned, given_on}
use Rattle.pc_enough_laws.proofs.Summed.{itself, Fits, spread, touch}
use Rattle.pc_enough_laws.proofs.Whole.{Bounded, all_bounded}

-- ---- the costs of touched parts

module _ (touched : Option CellId) where
  abbrev costs_touched : List Part → List ℕ → List ℕ
  costs_touched [] costs = []
  costs_touched (part ∷ parts) [] = []
  costs_touched (part ∷ parts) (cost ∷ costs) = cond (is_touched touched part) cost 0 ∷ costs_touched parts costs

  total_touched : (parts : List Part) (costs : List ℕ) → sum_of_touched touched parts costs ≡ sum_by itself (costs_touched parts costs)
  total_touched [] costs = refl
  total_touched (part ∷ parts) [] = refl
  total_touched (part ∷ parts) (cost ∷ costs) =
      let first = cond (is_touched touched part) cost 0 in
      omega (arith, sum_by-cons itself first (costs_touched parts costs), total_touched parts costs)

  cost_there : (parts : List Part) (costs : List ℕ) (i : ℕ) (part : Part) (cost : ℕ) → slice_get parts i ≡ Some part → slice_get costs i ≡ Some cost → is_touched touched part ≡ true
      → (i < length (costs_touched parts costs)) × (get_or (costs_touched parts costs) i 0 ≡ cost)
  cost_there [] costs i part cost at_part at_cost is = absurd (none_some at_part)
  cost_there (p ∷ parts) [] i part cost at_part at_cost is = absurd (none_some at_cost)
  cost_there (p ∷ parts) (c ∷ costs) zero part cost at_part at_cost is = (omega arith, ap (λ b. cond b c 0) (ap (is_touched touched) (same_some at_part) ∙ is) ∙ same_some at_cost)
  cost_there (p ∷ parts) (c ∷ costs) (suc i) part cost at_part at_cost is = let rest = cost_there parts costs i part cost at_part at_cost is in (omega (arith, rest.0), rest.1)

placed_together : (most : ℕ) (xs : List PartSpending) → All (λ x. placed_of x ≤ most * (learned_of x + calls_of x)) xs → sum_by placed_of xs ≤ most * (sum_by learned_of xs + sum_by calls_of xs)
placed_together most [] all = omega arith
placed_together most (x ∷ xs) all =
    let here = all zero x (omega arith) in
    let rest = placed_together most xs (λ k d l. all (suc k) d (omega (arith, l))) in
    let a = learned_of x + calls_of x in
    let b = sum_by learned_of xs + sum_by calls_of xs in
    let ls = sum_by-cons learned_of x xs in
    let cs = sum_by-cons calls_of x xs in
    let together : sum_by learned_of (x ∷ xs) + sum_by calls_of (x ∷ xs) ≡ a + b = omega (arith, ls, cs) in
    let split : most * (a + b) ≡ most * a + most * b = omega arith in
    let moved : most * (sum_by learned_of (x ∷ xs) + sum_by calls_of (x ∷ xs)) ≡ most * (a + b) = ap (λ n. most * n) together in
    omega (arith, sum_by-cons placed_of x xs, here, rest, split, moved)

pub counts_bounded : CountsAreBounded
counts_bounded sheet formed touched s of most_calls bounds =
    let kept = of.kept in
    let parts = parts_of (rules_alone sheet) in
    let items = s.parts.items in
    let number : PartSpending → ℕ = λ x. x.part in
    let learnable = map most_learned kept.variables in
    let learned_costs = costs_touched touched parts learnable in
    let calls_costs = costs_touched touched parts most_calls in
    let many = zip_length (IsMostCalls sheet) parts most_calls bounds in
    let learned_fits : All (Fits number learned_of learned_costs) items = λ k d l.
    let x = get_or items k d in
    let on = of.each k d l in
    let cost = cost_there touched parts learnable x.part on.part (most_learned on.own) on.numbered (map_at most_learned kept.variables x.part on.own on.own_are) (touch touched on.part on.is_touched) in
    let less = few_learned sheet formed on.part on.used on.own (given_on sheet touched kept of.are x on formed) x on.spent in
    (cost.0, omega (arith, cost.1, less)) in
    let calls_fits : All (Fits number calls_of calls_costs) items = λ k d l.
    let x = get_or items k d in
    let on = of.each k d l in
    let most = within_at most_calls x.part (omega (arith, at_within parts x.part on.part on.numbered, many)) in
    let bound = zip_at (IsMostCalls sheet) parts most_calls x.part on.part most.0 bounds on.numbered most.1 in
    let cost = cost_there touched parts most_calls x.part on.part most.0 on.numbered most.1 (touch touched on.part on.is_touched) in
    let few = on.spent.few_calls bound.0 bound.1 in
    (cost.0, omega (arith, cost.1, few, bound.2)) in
    let placed_fits : All (λ x. placed_of x ≤ variable_count sheet * (learned_of x + calls_of x)) items = λ k d l.
    let x = get_or items k d in
    let on = of.each k d l in
    let fits = zip_at (λ part own. Bounded sheet formed kept of.are (amounts_of sheet part own)) parts kept.variables x.part on.part on.own (all_bounded sheet formed kept of.are) on.numbered on.own_are in
    let some = at_within parts x.part on.part on.numbered in
    let below : length on.own ≤ variable_count sheet = omega (arith, fits.1, some) in
    let product : length on.own * (learned_of x + calls_of x) ≤ variable_count sheet * (learned_of x + calls_of x) =
    mul-le (length on.own) (learned_of x + calls_of x) (variable_count sheet) (learned_of x + calls_of x) below (omega arith) in
    omega (arith, on.spent.placed, product) in
    record {
      placed =
          let all = placed_together (variable_count sheet) items placed_fits in
          let moved : variable_count sheet * (s.tally.learned + s.tally.calls) ≡ variable_count sheet * (sum_by learned_of items + sum_by calls_of items) =
          (let same : s.tally.learned + s.tally.calls ≡ sum_by learned_of items + sum_by calls_of items = omega (arith, of.learned, of.calls) in ap (λ n. variable_count sheet * n) same) in
          omega (arith, all, of.placed, moved);
      learned = omega (arith, spread number learned_of items learned_costs of.different learned_fits, of.learned, total_touched touched parts learnable);
      calls = omega (arith, spread number calls_of items calls_costs of.different calls_fits, of.calls, total_touched touched parts most_calls);
    }

-- ---- an edit of an entry

module _ (sheet : Sheet) (formed : IsWellFormed sheet) (c : CellId) (s : Spending) (of : IsSpendingOf sheet (Some c) s) (i : ℕ) (part : Part) (own : List Var)
    (numbered : IsPartNumbered (rules_alone sheet) i part) (has : Contains part.cells c.0) (at_own : slice_get of.kept.variables i ≡ Some own) where
  -- what was spent on the cell's part
  one_spent : (x : PartSpending) → IsSpentOn sheet (Some c) of.kept x → (x.part ≡ i) × (placed_of x ≤ length own * (learned_of x + calls_of x)) × AreFewCalls sheet part (calls_of x)
  one_spent x on =
      let parts = parts_of (rules_alone sheet) in
      let is : x.part ≡ i = one_number sheet formed x.part i on.part part c.0 on.numbered numbered on.is_touched has in
      let same_part : on.part ≡ part = same_some (sym on.numbered ∙ ap (slice_get parts) is ∙ numbered) in
      let same_own : on.own ≡ own = same_some (sym on.own_are ∙ ap (slice_get of.kept.variables) is ∙ at_own) in
      (is, subst (λ o. placed_of x ≤ length o * (learned_of x + calls_of x)) same_own on.spent.placed, subst (λ p. AreFewCalls sheet p (calls_of x)) same_part on.spent.few_calls)

  of_items : (xs : List PartSpending) → All (IsSpentOn sheet (Some c) of.kept) xs → AllPairs (λ x y. x.part ≢ y.part) xs
      → (sum_by placed_of xs ≤ length own * (sum_by learned_of xs + sum_by calls_of xs)) × AreFewCalls sheet part (sum_by calls_of xs)
  of_items [] all different = (omega arith, λ sets lists. omega arith)
  of_items (x ∷ []) all different =
      let one = one_spent x (all zero x (omega arith)) in
      let p : placed_of x ≡ sum_by placed_of (x ∷ []) = omega (arith, sum_by-cons placed_of x []) in
      let l : learned_of x ≡ sum_by learned_of (x ∷ []) = omega (arith, sum_by-cons learned_of x []) in
      let k : calls_of x ≡ sum_by calls_of (x ∷ []) = omega (arith, sum_by-cons calls_of x []) in
      (subst (λ n. n ≤ length own * (sum_by learned_of (x ∷ []) + sum_by calls_of (x ∷ []))) p (subst (λ n. placed_of x ≤ length own * (n + sum_by calls_of (x ∷ []))) l (subst (λ n. placed_of x ≤ length own * (learned_of x + n)) k one.1)), subst (AreFewCalls sheet part) k one.2)
  of_items (x ∷ y ∷ more) all different =
      let one = one_spent x (all zero x (omega arith)) in
      let two = one_spent y (all (suc zero) x (omega arith)) in
      absurd (different zero (suc zero) x (omega arith) (omega arith) (one.0 ∙ sym two.0))

pub on_one_part : EntryEditsSpendOnOnePart
on_one_part sheet formed c s of i part own numbered has at_own =
    let found = of_items sheet formed c s of i part own numbered has at_own s.parts.items of.each of.different in (
      subst (λ n. n ≤ length own * (s.tally.learned + s.tally.calls)) (sym of.placed) (subst (λ n. sum_by placed_of s.parts.items ≤ length own * (n + s.tally.calls)) (sym of.learned) (subst (λ n. sum_by placed_of s.parts.items ≤ length own * (sum_by learned_of s.parts.items + n)) (sym of.calls) found.0)),
      subst (AreFewCalls sheet part) (sym of.calls) found.1,
    )
