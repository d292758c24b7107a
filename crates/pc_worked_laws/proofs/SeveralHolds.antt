-- Cells with several entries, computed.
use Rattle.std.proofs.Common.{◌≡◌, ◌⊎◌, inl, inr, ℕ, zero, suc, ◌<◌, ◌≤◌, List, [], ◌∷◌, length, get_or, Some, arith, ap, refl, sym, ◌∙◌, subst, codes}
use Rattle.std.proofs.lemmas.List.Elements.{All-from_recursion, All-head}
use Rattle.std.proofs.lemmas.List.Sums.{length-filter, count_by-le-length}
use Rattle.pc_sheet.specs.Sheet.{Sheet}
use Rattle.pc_sheet.specs.Entailment.{IsConsistent, IsConflict, IsSublist, opposite_of}
use Rattle.pc_sheet.specs.MaximalSets.{IsMinimalInconsistent}
use Rattle.pc_sheet.specs.WellFormed.{IsEntryOf, is_of_cell}
use Rattle.pc_sheet.specs.declared.ids.Entry.{Entry}
use Rattle.pc_laws.specs.Examples.{IsShownFor, red, green, entry, colored, cells_and_rules}
use Rattle.pc_laws.proofs.Finding.{computed}
use Rattle.pc_worked_laws.specs.LargestSets.{pair}
use Rattle.pc_worked_laws.specs.Several.{both_views, with_views, numbers, first_views, cell_of, WorkedViews, WorkedEdits, WorkedLimit}
use Rattle.pc_worked_laws.proofs.Computing.{is_consistent, not_consistent, lists, sublist, not_least}

-- ---- two views of a cell

abbrev no_rule : Sheet
no_rule = cells_and_rules (colored (codes "a") ∷ []) [] both_views

-- what is less than both
fewer : (sheet : Sheet) → IsConsistent sheet [] → IsConsistent sheet (entry 0 red ∷ []) → IsConsistent sheet (entry 0 green ∷ []) → (other : List Entry) → IsSublist both_views other
    → (other ≡ both_views) ⊎ IsConsistent sheet other
fewer sheet nothing first second other (inl (inl none)) = inr (subst (IsConsistent sheet) (sym none) nothing)
fewer sheet nothing first second other (inl (inr (rest, is, none))) = inr (subst (IsConsistent sheet) (sym (is ∙ ap (λ es. entry 0 green ∷ es) none)) second)
fewer sheet nothing first second other (inr (rest, is, inl none)) = inr (subst (IsConsistent sheet) (sym (is ∙ ap (λ es. entry 0 red ∷ es) none)) first)
fewer sheet nothing first second other (inr (rest, is, inr (more, also, none))) = inl (is ∙ ap (λ es. entry 0 red ∷ es) (also ∙ ap (λ es. entry 0 green ∷ es) none))

clash : IsMinimalInconsistent no_rule both_views
clash = record {
  among = sublist no_rule.entries both_views refl;
  inconsistent = not_consistent no_rule 2 [] refl both_views refl;
  minimal = fewer no_rule (is_consistent no_rule 2 [] refl [] refl) (is_consistent no_rule 2 [] refl (entry 0 red ∷ []) refl) (is_consistent no_rule 2 [] refl (entry 0 green ∷ []) refl);
}

abbrev others : List ℕ
others = 2 ∷ 2 ∷ []

clash_beside : IsMinimalInconsistent with_views both_views
clash_beside = record {
  among = sublist with_views.entries both_views refl;
  inconsistent = not_consistent with_views 2 others refl both_views refl;
  minimal = fewer with_views (is_consistent with_views 2 others refl [] refl) (is_consistent with_views 2 others refl (entry 0 red ∷ []) refl) (is_consistent with_views 2 others refl (entry 0 green ∷ []) refl);
}

of_older : IsConflict with_views (entry 0 green ∷ []) (entry 0 red)
of_older = All-head (λ p. IsShownFor with_views p.0 p.1) (opposite_of (entry 0 red), Some (entry 0 green ∷ [])) [] (computed with_views ((opposite_of (entry 0 red), Some (entry 0 green ∷ [])) ∷ []) refl)

of_newer : IsConflict with_views (entry 0 red ∷ []) (entry 0 green)
of_newer = All-head (λ p. IsShownFor with_views p.0 p.1) (opposite_of (entry 0 green), Some (entry 0 red ∷ [])) [] (computed with_views ((opposite_of (entry 0 green), Some (entry 0 red ∷ [])) ∷ []) refl)

of_other : IsConflict with_views (entry 0 green ∷ []) (entry 2 red)
of_other = All-head (λ p. IsShownFor with_views p.0 p.1) (opposite_of (entry 2 red), Some (entry 0 green ∷ [])) [] (computed with_views ((opposite_of (entry 2 red), Some (entry 0 green ∷ [])) ∷ []) refl)

pub worked_views : WorkedViews
worked_views = record {
  clash = clash;
  clash_beside_others = clash_beside;
  of_the_older = of_older;
  of_the_newer = of_newer;
  of_the_other = of_other;
  not_of_itself = not_least with_views (entry 0 red ∷ []) (entry 0 green ∷ []) (opposite_of (entry 0 green)) of_newer refl;
  largest = lists with_views 2 others refl (pair (entry 0 red) (entry 2 red) ∷ (entry 0 green ∷ []) ∷ []) refl;
}

-- ---- edits

pub worked_edits : WorkedEdits
worked_edits = record {
  of_cell = refl;
  of_none = refl;
  entered_first = refl;
  entered_last = refl;
  entered_alone = refl;
  entered_new = refl;
  added_new = refl;
  added_standing = refl;
  removed = refl;
  removed_none = refl;
  cleared_cell = refl;
  cleared_none = refl;
}

-- ---- the limit

-- the value at each place
value_at : (i : ℕ) (d : Entry) → i < 8 → (get_or (first_views 8) i d).value.0 ≡ i
value_at zero d l = refl
value_at (suc zero) d l = refl
value_at (suc (suc zero)) d l = refl
value_at (suc (suc (suc zero))) d l = refl
value_at (suc (suc (suc (suc zero)))) d l = refl
value_at (suc (suc (suc (suc (suc zero))))) d l = refl
value_at (suc (suc (suc (suc (suc (suc zero)))))) d l = refl
value_at (suc (suc (suc (suc (suc (suc (suc zero))))))) d l = refl
value_at (suc (suc (suc (suc (suc (suc (suc (suc i)))))))) d l = absurd (omega (arith, l))

pub worked_limit : WorkedLimit
worked_limit = record {
  eight = record {
    each = All-from_recursion (IsEntryOf numbers) (first_views 8) (omega arith, (omega arith, (omega arith, (omega arith, (omega arith, (omega arith, (omega arith, (omega arith, tt))))))));
    distinct = λ i j d below within is.
        let value : Entry → ℕ = λ e. e.value.0 in
        let first : (get_or (first_views 8) i d).value.0 ≡ i = value_at i d (omega (arith, below, within)) in
        let second : (get_or (first_views 8) j d).value.0 ≡ j = value_at j d within in
        let same : i ≡ j = sym first ∙ ap value is ∙ second in
        absurd (omega (arith, below, same));
    few = λ c.
        let counted = length-filter (is_of_cell c) (first_views 8) in
        let less = count_by-le-length (is_of_cell c) (first_views 8) in
        let all : length (first_views 8) ≡ 8 = refl in
        omega (arith, counted, less, all);
  };
  nine = λ h. let many : 9 ≤ 8 = h.few (cell_of 0) in absurd (omega (arith, many));
  twice = λ h. h.distinct 0 1 (entry 0 red) (omega arith) (omega arith) refl;
  out_of_range = λ h. let within = All-head (IsEntryOf numbers) (entry 0 (record { 0 = 9 })) [] h.each in omega (arith, within);
}
