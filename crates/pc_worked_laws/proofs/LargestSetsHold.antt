-- The maximal sets of small sheets, computed.
use Rattle.std.proofs.Common.{◌≡◌, ◌⊎◌, inl, inr, List, [], ◌∷◌, refl, sym, ap, ◌∙◌, subst, Some}
use Rattle.std.proofs.lemmas.List.Elements.{All-head}
use Rattle.pc_sheet.specs.Entailment.{IsConsistent, IsSublist, opposite_of}
use Rattle.pc_sheet.specs.declared.ids.Entry.{Entry}
use Rattle.pc_laws.specs.Examples.{IsShownFor, red, green, entry, never_red, two_pairs}
use Rattle.pc_laws.proofs.Finding.{computed}
use Rattle.pc_worked_laws.specs.LargestSets.{NothingIsKept, PairsHaveFourSets, four_sets}
use Rattle.pc_worked_laws.proofs.Computing.{is_consistent, not_consistent, not_maximal, lists, sublist}

-- ---- an entry against the rules

fewer : (other : List Entry) → IsSublist (entry 0 red ∷ []) other → (other ≡ entry 0 red ∷ []) ⊎ IsConsistent never_red.sheet other
fewer other (inl none) = inr (subst (IsConsistent never_red.sheet) (sym none) (is_consistent never_red.sheet 2 [] refl [] refl))
fewer other (inr (rest, is, none)) = inl (is ∙ ap (λ es. entry 0 red ∷ es) none)

pub nothing_kept : NothingIsKept
nothing_kept = record {
  inconsistent = not_consistent never_red.sheet 2 [] refl (entry 0 red ∷ []) refl;
  conflicting = record {
    among = sublist never_red.sheet.entries (entry 0 red ∷ []) refl;
    inconsistent = not_consistent never_red.sheet 2 [] refl (entry 0 red ∷ []) refl;
    minimal = fewer;
  };
  largest = lists never_red.sheet 2 [] refl ([] ∷ []) refl;
  against_the_rules = All-head (λ p. IsShownFor never_red.sheet p.0 p.1) (opposite_of (entry 0 red), Some []) [] (computed never_red.sheet ((opposite_of (entry 0 red), Some []) ∷ []) refl);
}

-- ---- two pairs

pub four : PairsHaveFourSets
four = record {
  largest = lists two_pairs.sheet 2 (2 ∷ 2 ∷ 2 ∷ []) refl four_sets refl;
  too_small = not_maximal two_pairs.sheet 2 (2 ∷ 2 ∷ 2 ∷ []) refl refl (entry 0 red ∷ []) refl;
  too_large = not_maximal two_pairs.sheet 2 (2 ∷ 2 ∷ 2 ∷ []) refl refl (entry 0 red ∷ entry 1 green ∷ entry 2 red ∷ []) refl;
}
