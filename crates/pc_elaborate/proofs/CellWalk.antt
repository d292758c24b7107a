-- What is found of written values and cells, step by step.
use Rattle.std.proofs.Common.{◌≡◌, ◌↔◌, ℕ, suc, ◌<◌, ◌≤◌, List, [], ◌∷◌, ◌++◌, Option, None, Some, slice_get, IsSomeAnd, length, map, take, drop, get_or, arith, ap, ◌∙◌, sym, subst, refl, inl, inr, Ok, Err, IfOk, append-nil, Result}
use Rattle.std.proofs.Math.Seq.{drop-cons}
use Rattle.std.proofs.lemmas.List.{take_all, drop_all}
use Rattle.pc_formula.specs.Tree as tree
use Rattle.pc_formula.specs.Tree.{name_value, integer_value, value_of}
use Rattle.pc_formula.specs.declared.tree.ValueTree.{ValueTree}
use Rattle.pc_sheet.specs.Sheet.{Universe, Family}
use Rattle.pc_sheet.specs.Sizes.{size_of, cell_number, result_sort_of}
use Rattle.pc_sheet.specs.Entailment.{AreWithin, cell_sizes}
use Rattle.pc_sheet.specs.Cells.{IsApplication, CellsAreNumberedInOrder, cells}
use Rattle.pc_sheet.specs.declared.ids.SortId.{SortId}
use Rattle.pc_sheet.specs.declared.ids.FamilyId.{FamilyId}
use Rattle.pc_sheet.specs.declared.ids.CellId.{CellId}
use Rattle.pc_sheet.specs.declared.ids.ValueId.{ValueId}
use Rattle.pc_books.specs.declared.names.Named.TheVariants as named
use Rattle.pc_books.proofs.NamesLemmas.{name_is_declared}
use Rattle.pc_elaborate.specs.declared.fault.SortFault.{SortFault}
use Rattle.pc_elaborate.specs.declared.fault.SortFault.TheVariants.{WrongArity, WrongSort, Memory}
use Rattle.pc_elaborate.specs.Tests.{test}
use Rattle.pc_elaborate.specs.Outcome.{IsFoundOrFault, TellsFound, TellsValues, HasOneOutcome, HasUniqueNames, IsApplicationTold, sort_of_cell, sort_of_application}
use Rattle.pc_elaborate.specs.Elaboration.{IsFamilyNamed, TakesArguments, StandsForValue, AreValuesOf, IsCell}
use Rattle.pc_elaborate.specs.FormulaFaults.{IsSomeFamily, IsSomeValue, IsValueFault, AreValuesFault, IsCellFault, IsNameFault}
use Rattle.pc_elaborate.proofs.Values.{value_is_named, value_outcome, values_one, values_fault_one, values_fault_never, value_below, cell_outcome, some_at, get_below}
use Rattle.pc_elaborate.proofs.Testing.{tells, tells_err}

module _ (u : Universe) (ss : List SortId) (xs : List ValueTree) where
  -- what stands for the rest completes what is written, and a fault of the rest is one of the whole
  pub record ValuesSoFar (i : ℕ) (into : List ValueId) : Type 0 where
    pub stand : (vs : List ValueId) → AreValuesOf u (drop i ss) (map value_of (drop i xs)) vs → AreValuesOf u ss (map value_of xs) (take i into ++ vs)
    pub within : (vs : List ValueId) → AreWithin (map (size_of u) (drop i ss)) vs → AreWithin (map (size_of u) ss) (take i into ++ vs)
    pub fails : (e : SortFault) → AreValuesFault u (drop i ss) (map value_of (drop i xs)) e → AreValuesFault u ss (map value_of xs) e

  pub no_value_yet : (into : List ValueId) → ValuesSoFar 0 into
  no_value_yet into = record { stand = λ vs h. h; within = λ vs h. h; fails = λ e h. h }

  pub every_value : (i : ℕ) (into : List ValueId) → length ss ≤ i → length xs ≡ length ss → length into ≡ length ss → ValuesSoFar i into → AreValuesOf u ss (map value_of xs) into × AreWithin (map (size_of u) ss) into
  every_value i into l n m h =
      let no_sorts = drop_all i ss l in
      let no_values = drop_all i xs (omega arith) in
      let all : take i into ++ [] ≡ into = append-nil (take i into) ∙ take_all i into (omega arith) in
      let empty : AreValuesOf u (drop i ss) (map value_of (drop i xs)) [] = subst (λ ts. AreValuesOf u ts (map value_of (drop i xs)) []) (sym no_sorts) (subst (λ ys. AreValuesOf u [] (map value_of ys) []) (sym no_values) tt) in
      let below : AreWithin (map (size_of u) (drop i ss)) [] = subst (λ ts. AreWithin (map (size_of u) ts) []) (sym no_sorts) tt in
      (subst (AreValuesOf u ss (map value_of xs)) all (h.stand [] empty), subst (AreWithin (map (size_of u) ss)) all (h.within [] below))

  pub values_at_fault : (i : ℕ) (into : List ValueId) (s : SortId) (x : ValueTree) (e : SortFault) → i < length ss → length xs ≡ length ss → s ≡ get_or ss i s → x ≡ get_or xs i x → ValuesSoFar i into → IsValueFault u s (value_of x) e → AreValuesFault u ss (map value_of xs) e
  values_at_fault i into s x e l n si xi h k =
      let sorts : drop i ss ≡ s ∷ drop (suc i) ss = drop-cons ss i s l ∙ ap (λ t. t ∷ drop (suc i) ss) (sym si) in
      let values : drop i xs ≡ x ∷ drop (suc i) xs = drop-cons xs i x (omega arith) ∙ ap (λ t. t ∷ drop (suc i) xs) (sym xi) in
      h.fails e (subst (λ ts. AreValuesFault u ts (map value_of (drop i xs)) e) (sym sorts) (subst (λ ys. AreValuesFault u (s ∷ drop (suc i) ss) (map value_of ys) e) (sym values) (inl k)))

-- ---- memory is no reason

pub value_ample : (u : Universe) (s : SortId) (x : tree.Value) → ¬ IsValueFault u s x Memory
value_ample u s (name_value n) (inl h) = let e = h.1 in absurd (cc)
value_ample u s (name_value n) (inr h) = elim h.1 [ inl k ↦ (let e = k.1 in absurd (cc)) | inr k ↦ k.1 ]
value_ample u s (integer_value z) (inl h) = let e = h.1 in absurd (cc)
value_ample u s (integer_value z) (inr h) = elim h.1 [ inl k ↦ (let e = k.1 in absurd (cc)) | inr k ↦ k.1 ]

pub values_ample : (u : Universe) (ss : List SortId) (xs : List tree.Value) → ¬ AreValuesFault u ss xs Memory
values_ample u [] xs h = h
values_ample u (s ∷ ss) [] h = h
values_ample u (s ∷ ss) (x ∷ xs) (inl h) = value_ample u s x h
values_ample u (s ∷ ss) (x ∷ xs) (inr h) = values_ample u ss xs h.1

-- ---- what is told

pub other_value : (u : Universe) (s t : SortId) (n : List ℕ) (w : ValueId) (o : Option (SortId × ValueId)) → ((r : SortId) (v : ValueId) → (o ≡ Some (r, v)) ↔ StandsForValue u r (name_value n) v) → o ≡ Some (t, w) → (t.0 ≡ s.0 → ⊥) → IsValueFault u s (name_value n) WrongSort
other_value u s t n w o told is differs =
    let lacks : ¬ IsSomeValue u s (name_value n) = λ h. let e = (told s h.0).1 h.1 in let p : ◌≡◌ {A = SortId × ValueId} (t, w) (s, h.0) = cc in differs (ap (λ q. q.0.0) p) in
    inr (name_is_declared u n (named.Value t w) (value_is_named u t n w ((told t w).0 is)), inl (lacks, refl))

module _ (u : Universe) (unique : HasUniqueNames u) where
  pub value_told : (s : SortId) (x y : tree.Value) (r : Result ValueId SortFault) → x ≡ y → IsFoundOrFault (StandsForValue u s y) (IsValueFault u s y) r → TellsFound (StandsForValue u s x) (IsValueFault u s x) r
  value_told s x y r same h = subst (λ z. TellsFound (StandsForValue u s z) (IsValueFault u s z) r) (sym same) (tells (StandsForValue u s y) (IsValueFault u s y) (value_outcome u unique s y) (value_ample u s y) r h)

  module _ {A : Type 0} (ss : List SortId) (xs : List tree.Value) where
    pub values_ok : (vs : List ValueId) (x : A) → AreValuesOf u ss xs vs → TellsValues (AreValuesOf u ss xs) (AreValuesFault u ss xs) vs (Ok x)
    values_ok vs x h = record {
      told = h;
      only = λ ws k. values_one u unique ss xs ws vs k h;
      fault = λ e k. absurd (values_fault_never u ss xs vs h e k);
      ample = λ e. cc;
    }

    pub values_err : (vs : List ValueId) (e : SortFault) → AreValuesFault u ss xs e → TellsValues {A = A} (AreValuesOf u ss xs) (AreValuesFault u ss xs) vs (Err e)
    values_err vs e h = record {
      told = h;
      only = λ ws k. values_fault_never u ss xs ws k e h;
      fault = λ f k. ap Err (values_fault_one u ss xs e f h k);
      ample = λ same. let k : e ≡ Memory = cc in values_ample u ss xs (subst (AreValuesFault u ss xs) k h);
    }

  values_within : (ss : List SortId) (xs : List tree.Value) (vs : List ValueId) → AreValuesOf u ss xs vs → AreWithin (map (size_of u) ss) vs
  values_within [] [] [] h = tt
  values_within [] [] (v ∷ vs) h = h
  values_within [] (x ∷ xs) vs h = absurd h
  values_within (s ∷ ss) [] vs h = absurd h
  values_within (s ∷ ss) (x ∷ xs) [] h = h
  values_within (s ∷ ss) (x ∷ xs) (v ∷ vs) h = (value_below u s x v h.0, values_within ss xs vs h.1)

  -- the cell of an application, where cells are numbered in order
  module _ (ordered : CellsAreNumberedInOrder) where
    cell_is : (f : FamilyId) (vs : List ValueId) (c : CellId) → IsApplication u (record { family = f; arguments = vs }) → c.0 ≡ cell_number u f vs → slice_get (cells u) c.0 ≡ Some (record { family = f; arguments = vs })
    cell_is f vs c applied number = ap (slice_get (cells u)) number ∙ (ordered u).stands (record { family = f; arguments = vs }) applied

    cell_sort_is : (f : FamilyId) (vs : List ValueId) (c : CellId) → IsApplication u (record { family = f; arguments = vs }) → c.0 ≡ cell_number u f vs → sort_of_cell u c ≡ result_sort_of (slice_get u.families f.0)
    cell_sort_is f vs c applied number = ap (sort_of_application u) (cell_is f vs c applied number)

    application_of : (f : FamilyId) (ss : List SortId) (xs : List tree.Value) (vs : List ValueId) → TakesArguments u f ss → AreValuesOf u ss xs vs → IsApplication u (record { family = f; arguments = vs })
    application_of f ss xs vs takes given = by (slice_get u.families f.0) takes
      where
        by : (o : Option Family) → IsSomeAnd o (λ d. d.sorts ≡ ss) → IsSomeAnd o (λ d. AreWithin (map (size_of u) d.sorts) vs)
        by None h = h
        by (Some d) h = subst (λ ts. AreWithin (map (size_of u) ts) vs) (sym h) (values_within ss xs vs given)

    pub cell_sort : (w : tree.Cell) (c : CellId) (s : SortId) → IsCell u w c s → s ≡ sort_of_cell u c
    cell_sort w c s h =
        let applied = application_of h.family h.sorts w.args h.arguments h.takes h.given in
        let family = some_at (slice_get u.families h.family.0) (λ (d : Family). d.result_sort ≡ s) h.gives in
        sym (cell_sort_is h.family h.arguments c applied h.number ∙ ap result_sort_of family.1 ∙ family.2)

    pub cell_below : (f : FamilyId) (xs : List tree.Value) (r : Result CellId SortFault) → IsApplicationTold u f xs r → IfOk r (λ c. c.0 < length (cell_sizes u))
    cell_below f xs (Ok c) h = let below = get_below u (cells u) c.0 _ (cell_is f h.1 c h.4 h.5) in omega (arith, below, (ordered u).count)
    cell_below f xs (Err e) h = tt

    module _ (w : tree.Cell) where
      abbrev pub IsThisCell : CellId → Type 0
      IsThisCell c = IsCell u w c (sort_of_cell u c)

      this_outcome : HasOneOutcome IsThisCell (IsCellFault u w)
      this_outcome =
          let law = cell_outcome u unique w in
          record {
            one = λ c d h k. ap (λ p. p.0) (law.one (c, sort_of_cell u c) (d, sort_of_cell u d) h k);
            never = λ c h. law.never (c, sort_of_cell u c) h;
            same = law.same;
          }

      cell_ample : ¬ IsCellFault u w Memory
      cell_ample (inl (inl h)) = let e = h.1 in absurd (cc)
      cell_ample (inl (inr h)) = elim h.1 [ inl k ↦ (let e = k.1 in absurd (cc)) | inr k ↦ k.1 ]
      cell_ample (inr h) = elim h.1.4 [ inl k ↦ (let e = k.1 in absurd (cc)) | inr k ↦ values_ample u h.1.1 w.args k.1 ]

      family_told : (f : FamilyId) (xs : List tree.Value) (r : Result CellId SortFault) → w.args ≡ xs → IsFamilyNamed u w.name f → IsApplicationTold u f xs r → IsFoundOrFault IsThisCell (IsCellFault u w) r
      family_told f xs (Ok c) args is h =
          let family = some_at (slice_get u.families f.0) (λ (d : Family). d.name ≡ w.name) is in
          record {
            family = f;
            sorts = h.0;
            arguments = h.1;
            named = is;
            takes = h.2;
            given = subst (λ ys. AreValuesOf u h.0 ys h.1) (sym args) h.3;
            number = h.5;
            gives = subst (λ o. IsSomeAnd o (λ (d : Family). d.result_sort ≡ sort_of_cell u c)) (sym family.1) (sym (cell_sort_is f h.1 c h.4 h.5 ∙ ap result_sort_of family.1));
          }
      family_told f xs (Err e) args is h = inr ((f, is), (f, h.0, is, h.1, subst (λ ys. test (length ys ≡ length h.0) WrongArity (AreValuesFault u h.0 ys) e) (sym args) h.2))

      pub cell_told : (f : FamilyId) (xs : List tree.Value) (r : Result CellId SortFault) → w.args ≡ xs → IsFamilyNamed u w.name f → IsApplicationTold u f xs r → TellsFound IsThisCell (IsCellFault u w) r
      cell_told f xs r args is h = tells IsThisCell (IsCellFault u w) this_outcome cell_ample r (family_told f xs r args is h)

      pub no_family : (e : SortFault) → IsNameFault u w.name (IsSomeFamily u w.name) e → TellsFound IsThisCell (IsCellFault u w) (Err e)
      no_family e h = tells_err IsThisCell (IsCellFault u w) this_outcome e (inl h) cell_ample

pub value_within : (u : Universe) (s : SortId) (x : tree.Value) (r : Result ValueId SortFault) → IsFoundOrFault (StandsForValue u s x) (IsValueFault u s x) r → IfOk r (λ v. v.0 < size_of u s)
value_within u s x (Ok v) h = value_below u s x v h
value_within u s x (Err e) h = tt
