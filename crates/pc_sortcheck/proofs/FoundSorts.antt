-- The sorts of names, one after another.
use Rattle.std.proofs.Common.{◌≡◌, ℕ, zero, suc, ◌+◌, ◌<◌, List, [], ◌∷◌, ◌++◌, slice_get, IsSomeAnd, take, length, get_or, All, arith, ap, ◌∙◌, sym, subst, refl, inl, inr}
use Rattle.std.proofs.lemmas.List.{take_more}
use Rattle.std.proofs.lemmas.List.Elements.{All-nil, All-cons}
use Rattle.pc_sheet.specs.Sheet.{Universe, Sort}
use Rattle.pc_sheet.specs.WellFormed.{IsDeclaredSort}
use Rattle.pc_sheet.specs.declared.ids.SortId.{SortId}
use Rattle.pc_elaborate.specs.declared.fault.SortFault.{SortFault}
use Rattle.pc_elaborate.specs.Elaboration.{IsSortNamed}
use Rattle.pc_elaborate.specs.FormulaFaults.{IsSortNameFault}
use Rattle.pc_sortcheck.specs.Declaring.{AreSortsNamed}
use Rattle.pc_sortcheck.specs.DeclarationFaults.{AreSortNamesFault}

module _ (u : Universe) where
  sorts_push : (ns : List (List ℕ)) (ss : List SortId) (n : List ℕ) (s : SortId) → AreSortsNamed u ns ss → IsSortNamed u n s → AreSortsNamed u (ns ++ n ∷ []) (ss ++ s ∷ [])
  sorts_push [] [] n s h k = (k, tt)
  sorts_push [] (t ∷ ss) n s h k = absurd h
  sorts_push (m ∷ ns) [] n s h k = absurd h
  sorts_push (m ∷ ns) (t ∷ ss) n s h k = (h.0, sorts_push ns ss n s h.1 k)

  pub sorts_more : (ns : List (List ℕ)) (i : ℕ) (n : List ℕ) (ss : List SortId) (s : SortId) → n ≡ get_or ns i n → i < length ns → AreSortsNamed u (take i ns) ss → IsSortNamed u n s → AreSortsNamed u (take (i + 1) ns) (ss ++ s ∷ [])
  sorts_more ns i n ss s is l h k = subst (λ ms. AreSortsNamed u ms (ss ++ s ∷ [])) (sym (take_more ns i n l ∙ ap (λ m. take i ns ++ m ∷ []) (sym is))) (sorts_push (take i ns) ss n s h k)

  pub sort_fault_at : (ns : List (List ℕ)) (i : ℕ) (n : List ℕ) (ss : List SortId) (e : SortFault) → n ≡ get_or ns i n → i < length ns → AreSortsNamed u (take i ns) ss → IsSortNameFault u n e → AreSortNamesFault u ns e
  sort_fault_at [] i n ss e is l h k = absurd (omega arith)
  sort_fault_at (m ∷ ns) zero n ss e is l h k = inl (subst (λ x. IsSortNameFault u x e) is k)
  sort_fault_at (m ∷ ns) (suc i) n [] e is l h k = absurd h
  sort_fault_at (m ∷ ns) (suc i) n (s ∷ ss) e is l h k = inr ((s, h.0), sort_fault_at ns i n ss e is (omega arith) h.1 k)

  below : (sorts : List Sort) (k : ℕ) (n : List ℕ) → IsSomeAnd (slice_get sorts k) (λ d. d.name ≡ n) → k < length sorts
  below [] k n h = absurd h
  below (x ∷ xs) zero n h = omega arith
  below (x ∷ xs) (suc k) n h = let r = below xs k n h in omega (arith, r)

  pub sort_declared : (n : List ℕ) (s : SortId) → IsSortNamed u n s → IsDeclaredSort u s
  sort_declared n s h = below u.sorts s.0 n h

  pub sorts_declared : (ns : List (List ℕ)) (ss : List SortId) → AreSortsNamed u ns ss → All (IsDeclaredSort u) ss
  sorts_declared [] [] h = All-nil (IsDeclaredSort u)
  sorts_declared [] (s ∷ ss) h = absurd h
  sorts_declared (n ∷ ns) [] h = absurd h
  sorts_declared (n ∷ ns) (s ∷ ss) h = All-cons (IsDeclaredSort u) s ss (sort_declared n s h.0) (sorts_declared ns ss h.1)

  pub as_many_sorts : (ns : List (List ℕ)) (ss : List SortId) → AreSortsNamed u ns ss → length ss ≡ length ns
  as_many_sorts [] [] h = refl
  as_many_sorts [] (s ∷ ss) h = absurd h
  as_many_sorts (n ∷ ns) [] h = absurd h
  as_many_sorts (n ∷ ns) (s ∷ ss) h = let r = as_many_sorts ns ss h.1 in omega (arith, r)
