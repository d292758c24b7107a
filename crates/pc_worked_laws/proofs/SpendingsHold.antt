-- Unlawful spendings of small sheets.
use Rattle.std.proofs.Common.{◌≡◌, ◌≢◌, ℕ, inl, inr, List, [], ◌∷◌, Option, None, Some, All, AllPairs, Contains, sum_by, slice_get, arith, ap, refl, sym, ◌∙◌, subst}
use Rattle.std.proofs.lemmas.List.Elements.{All-head}
use Rattle.pc_sheet.specs.Sheet.{Sheet}
use Rattle.pc_sheet.specs.MaximalSets.{ListsExactly, AreRulesConsistent}
use Rattle.pc_sheet.specs.declared.ids.CellId.{CellId}
use Rattle.pc_sheet.specs.declared.ids.Entry.{Entry}
use Rattle.pc_laws.specs.Examples.{red, green, entry, equal_cells, two_pairs}
use Rattle.pc_lemmas.proofs.Elements.{contains_cases, contains_none}
use Rattle.pc_parts.specs.Components.{parts_of}
use Rattle.pc_parts.specs.Parts.{Part}
use Rattle.pc_parts.specs.PartSheets.{sheet_of}
use Rattle.pc_solver.specs.Spending.{marked}
use Rattle.pc_theory.specs.Spendings.{AreFewCalls, IsSetOf, IsSpentOn, IsLawful}
use Rattle.pc_theory.specs.Theories.{rules_alone}
use Rattle.pc_theory.specs.declared.spending.PartSpending.{PartSpending}
use Rattle.pc_theory.specs.declared.spending.Spending.{Spending}
use Rattle.pc_worked_laws.specs.Spendings.{HasNoLog, IsOfOnePart, WorkedSpendings}
use Rattle.pc_worked_laws.proofs.Computing.{is_consistent, lists}

-- what is spent on the only part, or on the first
pub on_first : (sheet : Sheet) (touched : Option CellId) (limit : ℕ) (s : Spending) (p : PartSpending) (more : List PartSpending) → s.parts.items ≡ p ∷ more → (l : IsLawful sheet touched limit s) → IsSpentOn sheet touched l.of_sheet.kept p
on_first sheet touched limit s p more are l = All-head (IsSpentOn sheet touched l.of_sheet.kept) p more (subst (All (IsSpentOn sheet touched l.of_sheet.kept)) are l.of_sheet.each)

abbrev nowhere : Part
nowhere = record { cells = []; pieces = [] }

abbrev part_or_none : Option Part → Part
part_or_none None = nowhere
part_or_none (Some part) = part

-- the sheet's part of that number
abbrev pub numbered : Sheet → ℕ → Part
numbered sheet k = part_or_none (slice_get (parts_of (rules_alone sheet)) k)

pub is_numbered : (sheet : Sheet) (k n : ℕ) (part : Part) → k ≡ n → slice_get (parts_of (rules_alone sheet)) k ≡ Some part → part ≡ numbered sheet n
is_numbered sheet k n part is at = sym (ap part_or_none at) ∙ ap (numbered sheet) is

missing : (part : Part) (k : ℕ) → k ≡ 1 → slice_get (parts_of (rules_alone equal_cells)) k ≡ Some part → ⊥
missing part k is at = none (sym (ap (λ n. slice_get (parts_of (rules_alone equal_cells)) n) is) ∙ at)
  where
    none : None ≡ Some part → ⊥
    none e = cc

not_there : ¬ Contains {X = ℕ} (0 ∷ 1 ∷ []) 3
not_there c = elim (contains_cases 0 (1 ∷ []) 3 c) [
  | inl is ↦ omega (arith, is)
  | inr later ↦ elim (contains_cases 1 [] 3 later) [ inl is ↦ omega (arith, is) | inr none ↦ contains_none 3 none ]
]

-- ---- calls

abbrev pub whole : Part
whole = numbered equal_cells 0

rules : AreRulesConsistent equal_cells
rules = let h = is_consistent equal_cells 2 (2 ∷ []) refl [] refl in (h.0, h.1.assigns, h.1.fits)

abbrev two_sets : List (List Entry)
two_sets = (entry 0 red ∷ []) ∷ (entry 1 green ∷ []) ∷ []

pub sets : ListsExactly (List Entry) (IsSetOf equal_cells whole) two_sets
sets =
    let all = lists (sheet_of equal_cells whole) 2 (2 ∷ []) refl two_sets refl in
    record { exact = λ s. (λ c. (rules, (all.exact s).0 c), λ h. (all.exact s).1 h.1); different = all.different }

few : (calls : ℕ) → AreFewCalls equal_cells whole calls → calls ≡ 75 → ⊥
few calls h is = omega (arith, h two_sets sets, is)

-- ---- the spendings

too_many : (s : Spending) → IsOfOnePart s 5 0 5 75 → ¬ IsLawful equal_cells None 5 s
too_many s h l =
    let on = on_first equal_cells None 5 s h.only [] h.parts l in
    few h.only.tally.calls (subst (λ part. AreFewCalls equal_cells part h.only.tally.calls) (is_numbered equal_cells h.only.part 0 on.part h.spent.number on.numbered) on.spent.few_calls) h.spent.counts.calls_is

another_cell : (s : Spending) → IsOfOnePart s 5 0 5 1 → ¬ IsLawful two_pairs.sheet (Some (record { 0 = 3 })) 5 s
another_cell s h l =
    let on = on_first two_pairs.sheet (Some (record { 0 = 3 })) 5 s h.only [] h.parts l in
    not_there (subst (λ part. Contains part.cells 3) (is_numbered two_pairs.sheet h.only.part 0 on.part h.spent.number on.numbered) on.is_touched)

in_no_log : (s : Spending) (p : PartSpending) → s.parts.items ≡ p ∷ [] → p.logs.items ≡ [] → p.tally.learned ≡ 1 → ¬ IsLawful equal_cells None 5 s
in_no_log s p are none one l =
    let on = on_first equal_cells None 5 s p [] are l in
    omega (arith, ap (sum_by marked) none, on.spent.learned, one)

stands_twice : (s : Spending) (p q : PartSpending) → s.parts.items ≡ p ∷ q ∷ [] → HasNoLog p 0 2 1 → HasNoLog q 0 3 1 → ¬ IsLawful equal_cells None 5 s
stands_twice s p q are first second l =
    let pairs = subst (AllPairs (λ (x y : PartSpending). x.part ≢ y.part)) are l.of_sheet.different in
    pairs 0 1 p (omega arith) (omega arith) (first.number ∙ sym second.number)

pub spendings : WorkedSpendings
spendings = record {
  four_of_five = λ s h l. omega (arith, l.all_placed, h.counts.placed_is);
  of_another_limit = λ s h l. omega (arith, l.limited, h.limit_is);
  no_such_part = λ s h l. let on = on_first equal_cells None 5 s h.only [] h.parts l in missing on.part h.only.part h.spent.number on.numbered;
  too_many_calls = too_many;
  of_another_cell = another_cell;
  learned_in_no_log = in_no_log;
  twice = stands_twice;
}
