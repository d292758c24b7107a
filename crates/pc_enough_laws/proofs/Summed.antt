-- Over the touched parts, of which none stands twice, less than enough is spent.
use Rattle.std.proofs.Common.{◌≡◌, ◌≢◌, ℕ, zero, suc, ◌+◌, ◌<◌, ◌≤◌, Bool, true, false, cond, List, [], ◌∷◌, length, get_or, set, sum_by, All, Option, None, Some, slice_get, arith, ap, refl, sym, ◌∙◌, subst}
use Rattle.std.specs.Prelude.{AllPairs}
use Rattle.std.proofs.lemmas.List.{get_or-set_other, length-set}
use Rattle.std.proofs.lemmas.List.Sums.{sum_by-cons, sum_by-set}
use Rattle.pc_lits.specs.declared.literal.Var.{Var}
use Rattle.pc_sheet.specs.Sheet.{Sheet}
use Rattle.pc_sheet.specs.declared.ids.CellId.{CellId}
use Rattle.pc_lemmas.proofs.Options.{same_some}
use Rattle.pc_enough_laws.specs.Amounts.{enough_of}
use Rattle.pc_parts.specs.Parts.{Part}
use Rattle.pc_parts.specs.Components.{parts_of}
use Rattle.pc_parts.proofs.Joining.{contains_among}
use Rattle.pc_theory.specs.Spendings.{IsTouched, placed_of}
use Rattle.pc_theory.specs.Theories.{rules_alone}
use Rattle.pc_theory.specs.declared.spending.PartSpending.{PartSpending}
use Rattle.pc_theory.proofs.Lists.{none_some}
use Rattle.pc_enough_laws.specs.Enough.{amounts_of, is_touched, touched_amounts}
use Rattle.pc_enough_laws.specs.Laws.{LawfulSpendingsAreOfLess}
use Rattle.pc_enough_laws.proofs.Owning.{same_enough}
use Rattle.pc_enough_laws.proofs.OfPart.{parts_spend_less}

-- ---- sums over different places

abbrev pub itself : ℕ → ℕ
itself n = n

module _ {X : Type 0} (place : X → ℕ) (f : X → ℕ) where
  abbrev pub Fits : List ℕ → X → Type 0
  Fits costs x = (place x < length costs) × (f x ≤ get_or costs (place x) 0)

  pub spread : (xs : List X) (costs : List ℕ) → AllPairs (λ x y. place x ≢ place y) xs → All (Fits costs) xs → sum_by f xs ≤ sum_by itself costs
  spread [] costs different all = omega arith
  spread (x ∷ xs) costs different all =
      let here = all zero x (omega arith) in
      let others = set costs (place x) 0 in
      let fits : All (Fits others) xs = λ k d l.
      let y = get_or xs k d in
      let there = all (suc k) d (omega (arith, l)) in
      let other : place y ≢ place x = λ is. different zero (suc k) d (omega arith) (omega (arith, l)) (sym is) in
      (omega (arith, there.0, length-set costs (place x) 0), subst (λ n. f y ≤ n) (sym (get_or-set_other costs (place x) (place y) 0 0 other)) there.1) in
      let rest = spread xs others (λ i j d below within. different (suc i) (suc j) d (omega (arith, below)) (omega (arith, within))) fits in
      let total : sum_by itself others + get_or costs (place x) 0 ≡ sum_by itself costs + 0 = sum_by-set itself costs (place x) 0 0 here.0 in
      omega (arith, sum_by-cons f x xs, here.1, rest, total)

more_each : {X : Type 0} (f : X → ℕ) (xs : List X) → sum_by (λ x. f x + 1) xs ≡ sum_by f xs + length xs
more_each f [] = omega arith
more_each f (x ∷ xs) = omega (arith, sum_by-cons f x xs, sum_by-cons (λ y. f y + 1) x xs, more_each f xs)

some_there : {X : Type 0} (f : X → ℕ) (xs : List X) → 1 ≤ sum_by f xs → 1 ≤ length xs
some_there f [] h = absurd (omega (arith, h))
some_there f (x ∷ xs) h = omega arith

-- ---- what each part costs, if it is touched

module _ (sheet : Sheet) (touched : Option CellId) where
  abbrev costs : List Part → List (List Var) → List ℕ
  costs [] owns = []
  costs (part ∷ parts) [] = []
  costs (part ∷ parts) (own ∷ owns) = cond (is_touched touched part) (enough_of (amounts_of sheet part own)) 0 ∷ costs parts owns

  summed : (parts : List Part) (owns : List (List Var)) → sum_by enough_of (touched_amounts sheet touched parts owns) ≡ sum_by itself (costs parts owns)
  summed [] owns = refl
  summed (part ∷ parts) [] = refl
  summed (part ∷ parts) (own ∷ owns) = by (is_touched touched part) (summed parts owns)
    where
      by : (b : Bool) → sum_by enough_of (touched_amounts sheet touched parts owns) ≡ sum_by itself (costs parts owns)
          → sum_by enough_of (cond b (amounts_of sheet part own ∷ touched_amounts sheet touched parts owns) (touched_amounts sheet touched parts owns)) ≡ sum_by itself (cond b (enough_of (amounts_of sheet part own)) 0 ∷ costs parts owns)
      by true rest = omega (arith, sum_by-cons enough_of (amounts_of sheet part own) (touched_amounts sheet touched parts owns), sum_by-cons itself (enough_of (amounts_of sheet part own)) (costs parts owns), rest)
      by false rest = omega (arith, sum_by-cons itself 0 (costs parts owns), rest)

  cost_at : (parts : List Part) (owns : List (List Var)) (i : ℕ) (part : Part) (own : List Var) → slice_get parts i ≡ Some part → slice_get owns i ≡ Some own → is_touched touched part ≡ true
      → (i < length (costs parts owns)) × (get_or (costs parts owns) i 0 ≡ enough_of (amounts_of sheet part own))
  cost_at [] owns i part own at_part at_own is = absurd (none_some at_part)
  cost_at (p ∷ parts) [] i part own at_part at_own is = absurd (none_some at_own)
  cost_at (p ∷ parts) (o ∷ owns) zero part own at_part at_own is = (
    omega arith,
    ap (λ b. cond b (enough_of (amounts_of sheet p o)) 0) (ap (is_touched touched) (same_some at_part) ∙ is) ∙ ap (λ q. enough_of (amounts_of sheet q o)) (same_some at_part) ∙ ap (λ q. enough_of (amounts_of sheet part q)) (same_some at_own),
  )
  cost_at (p ∷ parts) (o ∷ owns) (suc i) part own at_part at_own is = let rest = cost_at parts owns i part own at_part at_own is in (omega (arith, rest.0), rest.1)

pub touch : (touched : Option CellId) (part : Part) → IsTouched touched part → is_touched touched part ≡ true
touch None part h = refl
touch (Some c) part h = contains_among part.cells c.0 h

pub spendings_of_less : LawfulSpendingsAreOfLess
spendings_of_less sheet formed touched limit some s lawful other others =
    let of = lawful.of_sheet in
    let kept = of.kept in
    let parts = parts_of (rules_alone sheet) in
    let cs = costs sheet touched parts kept.variables in
    let number : PartSpending → ℕ = λ x. x.part in
    let more : PartSpending → ℕ = λ x. placed_of x + 1 in
    let fits : All (Fits number more cs) s.parts.items = λ k d l.
    let x = get_or s.parts.items k d in
    let on = of.each k d l in
    let cost = cost_at sheet touched parts kept.variables x.part on.part on.own on.numbered on.own_are (touch touched on.part on.is_touched) in
    let less = parts_spend_less sheet formed touched kept of.are x on in
    (cost.0, omega (arith, cost.1, less)) in
    let total = spread number more s.parts.items cs of.different fits in
    let placed : sum_by placed_of s.parts.items ≡ limit = sym of.placed ∙ lawful.all_placed in
    let present : 1 ≤ length s.parts.items = some_there placed_of s.parts.items (omega (arith, some, placed)) in
    omega (arith, total, present, placed, more_each placed_of s.parts.items, summed sheet touched parts kept.variables, same_enough sheet touched kept other of.are others)
