-- What is kept of searches that take some of the parts' axioms is no more than where they take all.
use Rattle.std.proofs.Common.{◌≡◌, ℕ, zero, suc, ◌+◌, ◌*◌, ◌<◌, ◌≤◌, Bool, List, [], ◌∷◌, ◌++◌, map, length, sum_by, get_or, set, take, Option, Some, slice_get, refl, ap, sym, ◌∙◌, subst, arith}
use Rattle.std.specs.List.{AllZip}
use Rattle.std.proofs.lemmas.List.{take_all, take_more_set}
use Rattle.std.proofs.lemmas.List.Sums.{sum_by-cons}
use Rattle.std.proofs.lemmas.Option.{get_or_from_slice_get}
use Rattle.std.proofs.Math.Nat.{mul-le-mul_left}
use Rattle.pc_lits.specs.declared.literal.Var.{Var}
use Rattle.pc_lits.specs.declared.literal.Lit.{Lit}
use Rattle.pc_sheet.specs.Sheet.{Sheet}
use Rattle.pc_ground.specs.Ground.{clauses}
use Rattle.pc_parts.specs.Parts.{Part}
use Rattle.pc_parts.specs.Components.{parts_of}
use Rattle.pc_components.specs.PartAxioms.{AreAxiomsOf, AreVariablesOf}
use Rattle.pc_components.specs.View.{Kept, variable_number, AreComponentsOf}
use Rattle.pc_kept.specs.ByPolarity.{AreKeptByPolarity}
use Rattle.pc_kept.specs.Components.{AreKeptOf}
use Rattle.pc_kept.proofs.MarkedLemmas.{no_more_ordered}
use Rattle.pc_search.specs.Found.{search_bytes, work_between}
use Rattle.pc_theory.specs.Edits.{IsBlankOn}
use Rattle.pc_theory.specs.KeptBytes.{part_bytes}
use Rattle.pc_theory.specs.Theories.{rules_alone, TheoryView, IsTheory}
use Rattle.pc_theory.specs.declared.spending.PartSpending.{PartSpending}
use Rattle.pc_theory.proofs.Lists.{sum_push}
use Rattle.pc_theory.proofs.OfWhole.{no_more}

-- ---- one part

times_up : (x y n : ℕ) → x ≤ y → x * n ≤ y * n
times_up x y n up =
    let more : n * x ≤ n * y = mul-le-mul_left n up in
    let one : x * n ≡ n * x = grind arith in
    let two : y * n ≡ n * y = grind arith in
    omega (arith, more, one, two)

both_up : (a b x y : ℕ) → a ≤ b → x ≤ y → 16 * a + x ≤ 16 * b + y
both_up a b x y up more = omega (arith, up, more)

-- with fewer axioms and variables
search_less : (a b v w n : ℕ) → a ≤ b → v ≤ w → search_bytes a v n ≤ search_bytes b w n
search_less a b v w n axioms variables = both_up a b ((24 + 8 * v) * n) ((24 + 8 * w) * n) axioms (times_up (24 + 8 * v) (24 + 8 * w) n (omega (arith, variables)))

axioms_less : (sheet : Sheet) (banned : List (Option Bool)) (ps : List Part) (whole kept : List (List ℕ)) → AllZip (AreAxiomsOf sheet) ps whole → AllZip (AreKeptByPolarity sheet banned) whole kept → (i : ℕ) → length (get_or kept i []) ≤ length (get_or whole i [])
axioms_less sheet banned ps [] [] are chosen i = omega arith
axioms_less sheet banned ps [] (k ∷ kept) are chosen i = absurd chosen
axioms_less sheet banned ps (u ∷ whole) [] are chosen i = absurd chosen
axioms_less sheet banned [] (u ∷ whole) (k ∷ kept) are chosen i = absurd are
axioms_less sheet banned (p ∷ ps) (u ∷ whole) (k ∷ kept) are chosen zero = no_more_ordered k u chosen.0.order are.0.order chosen.0.among
axioms_less sheet banned (p ∷ ps) (u ∷ whole) (k ∷ kept) are chosen (suc i) = axioms_less sheet banned ps whole kept are.1 chosen.1 i

abbrev AreNamedBy : Sheet → List ℕ → List Var → Type 0
AreNamedBy sheet used own = AreVariablesOf (clauses sheet) used (map variable_number own)

variables_less : (sheet : Sheet) (banned : List (Option Bool)) (whole kept : List (List ℕ)) (own taken : List (List Var)) → AllZip (AreKeptByPolarity sheet banned) whole kept → AllZip (AreNamedBy sheet) whole own → AllZip (AreNamedBy sheet) kept taken
    → (i : ℕ) → length (get_or taken i []) ≤ length (get_or own i [])
variables_less sheet banned [] [] [] [] chosen are of i = omega arith
variables_less sheet banned [] [] [] (t ∷ taken) chosen are of i = absurd of
variables_less sheet banned [] [] (o ∷ own) taken chosen are of i = absurd are
variables_less sheet banned [] (k ∷ kept) own taken chosen are of i = absurd chosen
variables_less sheet banned (u ∷ whole) [] own taken chosen are of i = absurd chosen
variables_less sheet banned (u ∷ whole) (k ∷ kept) [] taken chosen are of i = absurd are
variables_less sheet banned (u ∷ whole) (k ∷ kept) (o ∷ own) [] chosen are of i = absurd of
variables_less sheet banned (u ∷ whole) (k ∷ kept) (o ∷ own) (t ∷ taken) chosen are of zero = no_more (clauses sheet) u k chosen.0.among o t are.0 of.0
variables_less sheet banned (u ∷ whole) (k ∷ kept) (o ∷ own) (t ∷ taken) chosen are of (suc i) = variables_less sheet banned whole kept own taken chosen.1 are.1 of.1 i

module _ (sheet : Sheet) (whole kept : Kept) (are : AreComponentsOf sheet whole) (chosen : AreKeptOf sheet whole kept) where
  pub part_less : (s : PartSpending) → part_bytes kept s ≤ part_bytes whole s
  part_less s =
      search_less (length (get_or kept.axioms s.part [])) (length (get_or whole.axioms s.part [])) (length (get_or kept.variables s.part [])) (length (get_or whole.variables s.part [])) (s.tally.learned + s.tally.calls)
      (axioms_less sheet kept.banned (parts_of sheet) whole.axioms kept.axioms are.axioms chosen.axioms s.part)
      (variables_less sheet kept.banned whole.axioms kept.axioms whole.variables kept.variables chosen.axioms are.variables chosen.variables s.part)

  pub parts_less : (xs : List PartSpending) → sum_by (part_bytes kept) xs ≤ sum_by (part_bytes whole) xs
  parts_less [] = omega arith
  parts_less (x ∷ xs) = omega (arith, sum_by-cons (part_bytes kept) x xs, sum_by-cons (part_bytes whole) x xs, part_less x, parts_less xs)

-- what a search tells of a part's axioms and variables
pub part_bytes_at : (kept : Kept) (i : ℕ) (used : List ℕ) (own : List Var) → slice_get kept.axioms i ≡ Some used → slice_get kept.variables i ≡ Some own → (s : PartSpending) → s.part ≡ i
    → search_bytes (length used) (length own) (s.tally.learned + s.tally.calls) ≡ part_bytes kept s
part_bytes_at kept i used own at_used at_own s number =
    let us : get_or kept.axioms s.part [] ≡ used = ap (λ n. get_or kept.axioms n []) number ∙ get_or_from_slice_get kept.axioms i used [] at_used in
    let os : get_or kept.variables s.part [] ≡ own = ap (λ n. get_or kept.variables n []) number ∙ get_or_from_slice_get kept.variables i own [] at_own in
    ap (λ n. search_bytes n (length own) (s.tally.learned + s.tally.calls)) (ap length (sym us)) ∙ ap (λ n. search_bytes (length (get_or kept.axioms s.part [])) n (s.tally.learned + s.tally.calls)) (ap length (sym os))

pub bytes_at : (kept : Kept) (i : ℕ) (used : List ℕ) (own : List Var) → slice_get kept.axioms i ≡ Some used → slice_get kept.variables i ≡ Some own → (s : PartSpending) → s.part ≡ i → (before after : ℕ)
    → after ≤ before + search_bytes (length used) (length own) (s.tally.learned + s.tally.calls) → after ≤ before + part_bytes kept s
bytes_at kept i used own at_used at_own s number before after is = subst (λ n. after ≤ before + n) (part_bytes_at kept i used own at_used at_own s number) is

more_still : (a b x y : ℕ) → x ≤ y → b ≤ a + x → b ≤ a + y
more_still a b x y up is = omega (arith, up, is)

-- of an edit, for which nothing was spent before
pub edit_bytes : (sheet : Sheet) (theory : TheoryView) → IsTheory (rules_alone sheet) theory → (i : ℕ) (used : List ℕ) (own : List Var) → slice_get theory.searched.axioms i ≡ Some used → slice_get theory.searched.variables i ≡ Some own
    → (before place : PartSpending) → IsBlankOn i before → place.part ≡ before.part → (a b : ℕ) → b ≤ a + search_bytes (length used) (length own) (work_between before.tally place.tally) → b ≤ a + part_bytes theory.components place
edit_bytes sheet theory known i used own at_used at_own before place blank number a b is =
    let work : work_between before.tally place.tally ≡ place.tally.learned + place.tally.calls = omega (arith, blank.none_learned, blank.no_calls) in
    let here = bytes_at theory.searched i used own at_used at_own place (number ∙ blank.number) a b (subst (λ n. b ≤ a + search_bytes (length used) (length own) n) work is) in
    more_still a b (part_bytes theory.searched place) (part_bytes theory.components place) (part_less (rules_alone sheet) theory.components theory.searched known.components known.searched place) here

-- ---- the first parts

module _ (kept : Kept) (n : ℕ) (parts : List PartSpending) (place : PartSpending) (below : n < length parts) where
  pub first_more : sum_by (part_bytes kept) (take (n + 1) (set parts n place)) ≡ sum_by (part_bytes kept) (take n parts) + part_bytes kept place
  first_more = ap (sum_by (part_bytes kept)) (take_more_set parts n place below) ∙ sum_push (part_bytes kept) (take n parts) place

pub added_up : (first mid last some more here : ℕ) → last ≤ mid + here → mid ≤ first + some → more ≡ some + here → last ≤ first + more
added_up first mid last some more here one before both = omega (arith, one, before, both)

pub first_all : (kept : Kept) (n : ℕ) (parts : List PartSpending) → length parts ≤ n → sum_by (part_bytes kept) (take n parts) ≡ sum_by (part_bytes kept) parts
first_all kept n parts all = ap (sum_by (part_bytes kept)) (take_all n parts all)

-- ---- all parts, told of all axioms

pub whole_bytes : (sheet : Sheet) (whole kept : Kept) → AreComponentsOf sheet whole → AreKeptOf sheet whole kept → (parts : List PartSpending) (a b : ℕ) → b ≤ a + sum_by (part_bytes kept) parts → b ≤ a + sum_by (part_bytes whole) parts
whole_bytes sheet whole kept are chosen parts a b is = more_still a b (sum_by (part_bytes kept) parts) (sum_by (part_bytes whole) parts) (parts_less sheet whole kept are chosen parts) is
