-- What a formula stands for is unique where it is well sorted, and is beside no fault; a formula has one fault at most.
use Rattle.std.proofs.Common.{◌≡◌, ◌⊎◌, ℕ, zero, suc, pos, ◌<◌, List, [], ◌∷◌, ◌++◌, Option, None, Some, slice_get, IsSomeAnd, length, arith, ap, ap₂, ◌∙◌, sym, subst, refl, inl, inr}
use Rattle.std.proofs.lemmas.List.{length-append}
use Rattle.pc_formula.specs.Tree as tree
use Rattle.pc_formula.specs.Tree.{for_all, exists, counting, iff, implies, or, and, not, compare, in_table, no_part, items_of}
use Rattle.pc_sheet.specs.Sheet as plain
use Rattle.pc_sheet.specs.Sheet.{Universe, Table, Sort}
use Rattle.pc_sheet.specs.Views.{counting_of}
use Rattle.pc_sheet.specs.WellSorted.{Variables, AreOfSorts, IsNewVariable, IsWellSorted, AreWellSorted}
use Rattle.pc_sheet.specs.declared.ids.SortId.{SortId}
use Rattle.pc_sheet.specs.declared.ids.TableId.{TableId}
use Rattle.pc_books.specs.declared.names.Named.TheVariants as names
use Rattle.pc_books.proofs.NamesLemmas.{name_is_declared}
use Rattle.pc_elaborate.specs.declared.fault.SortFault.{SortFault}
use Rattle.pc_elaborate.specs.declared.fault.SortFault.TheVariants.{DuplicateName, Limit}
use Rattle.pc_sheet.specs.declared.limits.Limited.TheVariants.{Count, Depth}
use Rattle.pc_elaborate.specs.Outcome.{HasUniqueNames, HasOneOutcome}
use Rattle.pc_elaborate.specs.inside.Scope.{IsScope}
use Rattle.pc_elaborate.specs.Elaboration.{IsSortNamed, IsStatement, AreStatements, AreArguments}
use Rattle.pc_elaborate.specs.FormulaFaults.{IsDeclared, IsAround, IsSomeSort, IsSortNameFault, HasSort, IsSortedFormula, IsSmallCount, IsQuantifierFault, IsFormulaFault, AreFormulasFault}
use Rattle.pc_elaborate.proofs.Testing.{IsOne, IsNever, none_one, none_never, test_one, test_one_if, test_never, part_one, part_never}
use Rattle.pc_elaborate.proofs.Values.{some_at, both_at, get_below, sort_one, table_one, name_fault_one, name_fault_never}
use Rattle.pc_elaborate.proofs.Shapes.{shape, parts_shape}
use Rattle.pc_elaborate.proofs.ItemLaws.{arguments_one, bound_at}
use Rattle.pc_elaborate.proofs.SideLaws.{sum_one, comparison_one, comparison_never, table_atom_one, table_atom_never}

-- ---- one more variable

last_or_before : {X : Type 0} (xs : List X) (x y : X) (k : ℕ) → slice_get (xs ++ x ∷ []) k ≡ Some y → (slice_get xs k ≡ Some y) ⊎ ((k ≡ length xs) × (x ≡ y))
last_or_before [] x y zero h = inr (refl, cc)
last_or_before [] x y (suc k) h = absurd (cc)
last_or_before (z ∷ xs) x y zero h = inl h
last_or_before (z ∷ xs) x y (suc k) h = elim (last_or_before xs x y k h) [ inl a ↦ inl a | inr b ↦ inr (ap suc b.0, b.1) ]

pub no_scope : (u : Universe) → IsScope u []
no_scope u = record { different = λ n j k s t h. absurd (cc); undeclared = λ n k s h. absurd (cc); sorts = λ n k s h. absurd (cc); depth = omega arith }

module _ (u : Universe) (vs : Variables) (scope : IsScope u vs) (n : List ℕ) (s : SortId) (free : ¬ (IsDeclared u n ⊎ IsAround vs n)) (room : length vs < 16) (sort : s.0 < length u.sorts) where
  new_name : (m : List ℕ) (r : SortId) → ◌≡◌ {A = List ℕ × SortId} (n, s) (m, r) → n ≡ m
  new_name m r e = ap (λ p. p.0) e

  pub inner_scope : IsScope u (vs ++ (n, s) ∷ [])
  inner_scope = record {
    different = λ m j k r t h g. elim (last_or_before vs (n, s) (m, r) j h) [
      | inl a ↦ elim (last_or_before vs (n, s) (m, t) k g) [
        | inl b ↦ scope.different m j k r t a b
        | inr b ↦ absurd (free (inr (subst (IsAround vs) (sym (new_name m t b.1)) (bound_at vs j m r a))))
      ]
      | inr a ↦ elim (last_or_before vs (n, s) (m, t) k g) [
        | inl b ↦ absurd (free (inr (subst (IsAround vs) (sym (new_name m r a.1)) (bound_at vs k m t b))))
        | inr b ↦ a.0 ∙ sym b.0
      ]
    ];
    undeclared = λ m k r h. elim (last_or_before vs (n, s) (m, r) k h) [ inl a ↦ scope.undeclared m k r a | inr a ↦ (λ d. free (inl (subst (IsDeclared u) (sym (new_name m r a.1)) d))) ];
    sorts = λ m k r h. elim (last_or_before vs (n, s) (m, r) k h) [ inl a ↦ scope.sorts m k r a | inr a ↦ subst (λ (t : SortId). t.0 < length u.sorts) (ap (λ p. p.1) a.1) sort ];
    depth = omega (arith, length-append vs ((n, s) ∷ []));
  }

pub sort_below : (u : Universe) (n : List ℕ) (s : SortId) → IsSortNamed u n s → s.0 < length u.sorts
sort_below u n s h = let found = some_at (slice_get u.sorts s.0) (λ (d : Sort). d.name ≡ n) h in get_below u u.sorts s.0 found.0 found.1

module _ (u : Universe) (unique : HasUniqueNames u) where
  new_scope : (vs : Variables) → IsScope u vs → (n : List ℕ) (s : SortId) → IsNewVariable u vs n s → IsScope u (vs ++ (n, s) ∷ [])
  new_scope vs scope n s new = inner_scope u vs scope n s (λ h. elim h [ inl a ↦ new.undeclared a | inr b ↦ new.unbound b ]) new.depth new.sort

  -- ---- uniqueness

  same_number : (j k : ℕ) → pos j ≡ pos k → j ≡ k
  same_number j k e = cc

  mutual
    pub statement_one : (f : tree.Formula) (vs : Variables) → IsScope u vs → (s t : plain.Statement) → IsStatement u vs f s → IsWellSorted u vs s → IsStatement u vs f t → s ≡ t
    statement_one (for_all n sort f) vs scope s t h sorted k =
        let p = shape u vs (for_all n sort f) s h in
        let q = shape u vs (for_all n sort f) t k in
        let same = sort_one u unique sort q.0 p.0 q.3 p.3 in
        let inside : IsWellSorted u vs (plain.for_all n p.0 p.1) = subst (IsWellSorted u vs) p.2 sorted in
        let body = statement_one f (vs ++ (n, p.0) ∷ []) (new_scope vs scope n p.0 inside.0) p.1 q.1 p.4 inside.1 (subst (λ r. IsStatement u (vs ++ (n, r) ∷ []) f q.1) same q.4) in
        p.2 ∙ ap₂ (plain.for_all n) (sym same) body ∙ sym q.2
    statement_one (exists n sort f) vs scope s t h sorted k =
        let p = shape u vs (exists n sort f) s h in
        let q = shape u vs (exists n sort f) t k in
        let same = sort_one u unique sort q.0 p.0 q.3 p.3 in
        let inside : IsWellSorted u vs (plain.exists n p.0 p.1) = subst (IsWellSorted u vs) p.2 sorted in
        let body = statement_one f (vs ++ (n, p.0) ∷ []) (new_scope vs scope n p.0 inside.0) p.1 q.1 p.4 inside.1 (subst (λ r. IsStatement u (vs ++ (n, r) ∷ []) f q.1) same q.4) in
        p.2 ∙ ap₂ (plain.exists n) (sym same) body ∙ sym q.2
    statement_one (counting m z n sort f) vs scope s t h sorted k =
        let p = shape u vs (counting m z n sort f) s h in
        let q = shape u vs (counting m z n sort f) t k in
        let bound : p.0 ≡ q.0 = same_number p.0 q.0 (sym p.3 ∙ q.3) in
        let same = sort_one u unique sort q.1 p.1 q.5 p.5 in
        let inside : IsWellSorted u vs (plain.counts (counting_of m p.0) n p.1 p.2) = subst (IsWellSorted u vs) p.4 sorted in
        let body = statement_one f (vs ++ (n, p.1) ∷ []) (new_scope vs scope n p.1 inside.1) p.2 q.2 p.6 inside.2 (subst (λ r. IsStatement u (vs ++ (n, r) ∷ []) f q.2) same q.6) in
        p.4 ∙ ap (λ j. plain.counts (counting_of m j) n p.1 p.2) bound ∙ ap₂ (plain.counts (counting_of m q.0) n) (sym same) body ∙ sym q.4
    statement_one (iff f g) vs scope s t h sorted k =
        let p = shape u vs (iff f g) s h in
        let q = shape u vs (iff f g) t k in
        let inside : IsWellSorted u vs (plain.iff p.0 p.1) = subst (IsWellSorted u vs) p.2 sorted in
        p.2 ∙ ap₂ plain.iff (statement_one f vs scope p.0 q.0 p.3 inside.0 q.3) (statement_one g vs scope p.1 q.1 p.4 inside.1 q.4) ∙ sym q.2
    statement_one (implies f g) vs scope s t h sorted k =
        let p = shape u vs (implies f g) s h in
        let q = shape u vs (implies f g) t k in
        let inside : IsWellSorted u vs (plain.implies p.0 p.1) = subst (IsWellSorted u vs) p.2 sorted in
        p.2 ∙ ap₂ plain.implies (statement_one f vs scope p.0 q.0 p.3 inside.0 q.3) (statement_one g vs scope p.1 q.1 p.4 inside.1 q.4) ∙ sym q.2
    statement_one (or fs) vs scope s t h sorted k =
        let p = shape u vs (or fs) s h in
        let q = shape u vs (or fs) t k in
        let inside : IsWellSorted u vs (plain.some_of p.0) = subst (IsWellSorted u vs) p.1 sorted in
        p.1 ∙ ap plain.some_of (statements_one fs vs scope p.0 q.0 p.2 inside.1 q.2) ∙ sym q.1
    statement_one (and fs) vs scope s t h sorted k =
        let p = shape u vs (and fs) s h in
        let q = shape u vs (and fs) t k in
        let inside : IsWellSorted u vs (plain.all_of p.0) = subst (IsWellSorted u vs) p.1 sorted in
        p.1 ∙ ap plain.all_of (statements_one fs vs scope p.0 q.0 p.2 inside.1 q.2) ∙ sym q.1
    statement_one (not f) vs scope s t h sorted k =
        let p = shape u vs (not f) s h in
        let q = shape u vs (not f) t k in
        let inside : IsWellSorted u vs (plain.negation p.0) = subst (IsWellSorted u vs) p.1 sorted in
        p.1 ∙ ap plain.negation (statement_one f vs scope p.0 q.0 p.2 inside q.2) ∙ sym q.1
    statement_one (compare l op r) vs scope s t h sorted k =
        let p = shape u vs (compare l op r) s h in
        let q = shape u vs (compare l op r) t k in
        p.2 ∙ ap₂ (λ x y. plain.compare x op y) (sum_one u unique vs scope l p.0 q.0 p.3 q.3) (sum_one u unique vs scope r p.1 q.1 p.4 q.4) ∙ sym q.2
    statement_one (in_table n items) vs scope s t h sorted k =
        let p = shape u vs (in_table n items) s h in
        let q = shape u vs (in_table n items) t k in
        let same = table_one u unique n q.0 p.0 q.4 p.4 in
        let sorts = both_at (slice_get u.tables p.0.0) (λ (d : Table). d.sorts) q.1 p.1 (subst (λ (r : TableId). IsSomeAnd (slice_get u.tables r.0) (λ d. d.sorts ≡ q.1)) same q.5) p.5 in
        let given = arguments_one u unique vs scope (items_of items) p.1 p.2 q.2 p.6 (subst (λ ss. AreArguments u vs ss (items_of items) q.2) sorts q.6) in
        p.3 ∙ ap₂ plain.in_table (sym same) given ∙ sym q.3

    statements_one : (fs : tree.Formulas) (vs : Variables) → IsScope u vs → (ss ts : plain.Statements) → AreStatements u vs fs ss → AreWellSorted u vs ss → AreStatements u vs fs ts → ss ≡ ts
    statements_one no_part vs scope ss ts h sorted k = parts_shape u vs no_part ss h ∙ sym (parts_shape u vs no_part ts k)
    statements_one (tree.part f fs) vs scope ss ts h sorted k =
        let p = parts_shape u vs (tree.part f fs) ss h in
        let q = parts_shape u vs (tree.part f fs) ts k in
        let inside : AreWellSorted u vs (plain.statement p.0 p.1) = subst (AreWellSorted u vs) p.2 sorted in
        p.2 ∙ ap₂ plain.statement (statement_one f vs scope p.0 q.0 p.3 inside.0 q.3) (statements_one fs vs scope p.1 q.1 p.4 inside.1 q.4) ∙ sym q.2

  -- ---- a well-sorted formula has no fault

  has_sort_never : (n : List ℕ) (s : SortId) (Fails : SortId → SortFault → Type 0) → IsSortNamed u n s → IsNever (Fails s) → IsNever (HasSort u n Fails)
  has_sort_never n s Fails is never e h = never e (subst (λ r. Fails r e) (sort_one u unique n h.0 s h.1 is) h.2)

  quantifier_never : (vs : Variables) (n sort : List ℕ) (s : SortId) (Body : SortId → SortFault → Type 0) → IsSortNamed u sort s → IsNewVariable u vs n s → IsNever (Body s) → IsNever (IsQuantifierFault u vs n sort Body)
  quantifier_never vs n sort s Body is new never =
      test_never (length vs < 16) (Limit Depth) _ new.depth (test_never (¬ (IsDeclared u n ⊎ IsAround vs n)) DuplicateName _ (λ h. elim h [ inl a ↦ new.undeclared a | inr b ↦ new.unbound b ])
      (part_never (IsSomeSort u sort) (IsSortNameFault u sort) (HasSort u sort Body) (name_fault_never u sort (IsSomeSort u sort) (name_is_declared u sort (names.Sort s) is) (s, is)) (has_sort_never sort s Body is never)))

  mutual
    pub formula_never : (f : tree.Formula) (vs : Variables) → IsScope u vs → (s : plain.Statement) → IsStatement u vs f s → IsWellSorted u vs s → IsNever (IsFormulaFault u vs f)
    formula_never (for_all n sort f) vs scope s h sorted =
        let p = shape u vs (for_all n sort f) s h in
        let inside : IsWellSorted u vs (plain.for_all n p.0 p.1) = subst (IsWellSorted u vs) p.2 sorted in
        quantifier_never vs n sort p.0 (λ r. IsFormulaFault u (vs ++ (n, r) ∷ []) f) p.3 inside.0 (formula_never f (vs ++ (n, p.0) ∷ []) (new_scope vs scope n p.0 inside.0) p.1 p.4 inside.1)
    formula_never (exists n sort f) vs scope s h sorted =
        let p = shape u vs (exists n sort f) s h in
        let inside : IsWellSorted u vs (plain.exists n p.0 p.1) = subst (IsWellSorted u vs) p.2 sorted in
        quantifier_never vs n sort p.0 (λ r. IsFormulaFault u (vs ++ (n, r) ∷ []) f) p.3 inside.0 (formula_never f (vs ++ (n, p.0) ∷ []) (new_scope vs scope n p.0 inside.0) p.1 p.4 inside.1)
    formula_never (counting m z n sort f) vs scope s h sorted =
        let p = shape u vs (counting m z n sort f) s h in
        let inside : IsWellSorted u vs (plain.counts (counting_of m p.0) n p.1 p.2) = subst (IsWellSorted u vs) p.4 sorted in
        test_never (IsSmallCount m z) (Limit Count) (IsQuantifierFault u vs n sort (λ r. IsFormulaFault u (vs ++ (n, r) ∷ []) f)) (p.0, p.3, inside.0)
        (quantifier_never vs n sort p.1 (λ r. IsFormulaFault u (vs ++ (n, r) ∷ []) f) p.5 inside.1 (formula_never f (vs ++ (n, p.1) ∷ []) (new_scope vs scope n p.1 inside.1) p.2 p.6 inside.2))
    formula_never (iff f g) vs scope s h sorted =
        let p = shape u vs (iff f g) s h in
        let inside : IsWellSorted u vs (plain.iff p.0 p.1) = subst (IsWellSorted u vs) p.2 sorted in
        part_never (IsSortedFormula u vs f) (IsFormulaFault u vs f) (IsFormulaFault u vs g) (formula_never f vs scope p.0 p.3 inside.0) (formula_never g vs scope p.1 p.4 inside.1)
    formula_never (implies f g) vs scope s h sorted =
        let p = shape u vs (implies f g) s h in
        let inside : IsWellSorted u vs (plain.implies p.0 p.1) = subst (IsWellSorted u vs) p.2 sorted in
        part_never (IsSortedFormula u vs f) (IsFormulaFault u vs f) (IsFormulaFault u vs g) (formula_never f vs scope p.0 p.3 inside.0) (formula_never g vs scope p.1 p.4 inside.1)
    formula_never (or fs) vs scope s h sorted =
        let p = shape u vs (or fs) s h in
        let inside : IsWellSorted u vs (plain.some_of p.0) = subst (IsWellSorted u vs) p.1 sorted in
        formulas_never fs vs scope p.0 p.2 inside.1
    formula_never (and fs) vs scope s h sorted =
        let p = shape u vs (and fs) s h in
        let inside : IsWellSorted u vs (plain.all_of p.0) = subst (IsWellSorted u vs) p.1 sorted in
        formulas_never fs vs scope p.0 p.2 inside.1
    formula_never (not f) vs scope s h sorted =
        let p = shape u vs (not f) s h in
        let inside : IsWellSorted u vs (plain.negation p.0) = subst (IsWellSorted u vs) p.1 sorted in
        formula_never f vs scope p.0 p.2 inside
    formula_never (compare l op r) vs scope s h sorted =
        let p = shape u vs (compare l op r) s h in
        let inside : IsWellSorted u vs (plain.compare p.0 op p.1) = subst (IsWellSorted u vs) p.2 sorted in
        comparison_never u unique vs scope l r op p.0 p.1 p.3 p.4 inside.1 inside.0
    formula_never (in_table n items) vs scope s h sorted =
        let p = shape u vs (in_table n items) s h in
        let inside : IsWellSorted u vs (plain.in_table p.0 p.2) = subst (IsWellSorted u vs) p.3 sorted in
        table_atom_never u unique vs scope n (items_of items) p.0 p.1 p.2 p.4 p.5 p.6 (by (slice_get u.tables p.0.0) p.1 p.2 p.5 inside.0) inside.1
      where
        by : (o : Option Table) (ss : List SortId) (xs : plain.Items) → IsSomeAnd o (λ d. d.sorts ≡ ss) → IsSomeAnd o (λ d. AreOfSorts u vs xs d.sorts) → AreOfSorts u vs xs ss
        by None ss xs k m = absurd k
        by (Some d) ss xs k m = subst (AreOfSorts u vs xs) k m

    formulas_never : (fs : tree.Formulas) (vs : Variables) → IsScope u vs → (ss : plain.Statements) → AreStatements u vs fs ss → AreWellSorted u vs ss → IsNever (AreFormulasFault u vs fs)
    formulas_never no_part vs scope ss h sorted = none_never
    formulas_never (tree.part f fs) vs scope ss h sorted =
        let p = parts_shape u vs (tree.part f fs) ss h in
        let inside : AreWellSorted u vs (plain.statement p.0 p.1) = subst (AreWellSorted u vs) p.2 sorted in
        part_never (IsSortedFormula u vs f) (IsFormulaFault u vs f) (AreFormulasFault u vs fs) (formula_never f vs scope p.0 p.3 inside.0) (formulas_never fs vs scope p.1 p.4 inside.1)

  -- ---- a formula has one fault at most

  quantifier_one : (vs : Variables) → IsScope u vs → (n sort : List ℕ) (Body : SortId → SortFault → Type 0) → ((s : SortId) → IsScope u (vs ++ (n, s) ∷ []) → IsOne (Body s)) → IsOne (IsQuantifierFault u vs n sort Body)
  quantifier_one vs scope n sort Body one =
      test_one_if (length vs < 16) (Limit Depth) _ (λ room. test_one_if (¬ (IsDeclared u n ⊎ IsAround vs n)) DuplicateName _ (λ free.
      part_one (IsSomeSort u sort) (IsSortNameFault u sort) (HasSort u sort Body) (λ h. name_fault_never u sort (IsSomeSort u sort) (name_is_declared u sort (names.Sort h.0) h.1) h) (name_fault_one u sort (IsSomeSort u sort))
      (λ e f h k. one h.0 (inner_scope u vs scope n h.0 free room (sort_below u sort h.0 h.1)) e f h.2 (subst (λ r. Body r f) (sort_one u unique sort k.0 h.0 k.1 h.1) k.2))))

  mutual
    pub formula_fault_one : (f : tree.Formula) (vs : Variables) → IsScope u vs → IsOne (IsFormulaFault u vs f)
    formula_fault_one (for_all n sort f) vs scope = quantifier_one vs scope n sort (λ r. IsFormulaFault u (vs ++ (n, r) ∷ []) f) (λ s inner. formula_fault_one f (vs ++ (n, s) ∷ []) inner)
    formula_fault_one (exists n sort f) vs scope = quantifier_one vs scope n sort (λ r. IsFormulaFault u (vs ++ (n, r) ∷ []) f) (λ s inner. formula_fault_one f (vs ++ (n, s) ∷ []) inner)
    formula_fault_one (counting m z n sort f) vs scope =
        test_one (IsSmallCount m z) (Limit Count) (IsQuantifierFault u vs n sort (λ r. IsFormulaFault u (vs ++ (n, r) ∷ []) f))
        (quantifier_one vs scope n sort (λ r. IsFormulaFault u (vs ++ (n, r) ∷ []) f) (λ s inner. formula_fault_one f (vs ++ (n, s) ∷ []) inner))
    formula_fault_one (iff f g) vs scope = part_one (IsSortedFormula u vs f) (IsFormulaFault u vs f) (IsFormulaFault u vs g) (λ h. formula_never f vs scope h.0 h.1 h.2) (formula_fault_one f vs scope) (formula_fault_one g vs scope)
    formula_fault_one (implies f g) vs scope = part_one (IsSortedFormula u vs f) (IsFormulaFault u vs f) (IsFormulaFault u vs g) (λ h. formula_never f vs scope h.0 h.1 h.2) (formula_fault_one f vs scope) (formula_fault_one g vs scope)
    formula_fault_one (or fs) vs scope = formulas_fault_one fs vs scope
    formula_fault_one (and fs) vs scope = formulas_fault_one fs vs scope
    formula_fault_one (not f) vs scope = formula_fault_one f vs scope
    formula_fault_one (compare l op r) vs scope = comparison_one u unique vs scope l r op
    formula_fault_one (in_table n items) vs scope = table_atom_one u unique vs scope n (items_of items)

    formulas_fault_one : (fs : tree.Formulas) (vs : Variables) → IsScope u vs → IsOne (AreFormulasFault u vs fs)
    formulas_fault_one no_part vs scope = none_one
    formulas_fault_one (tree.part f fs) vs scope =
        part_one (IsSortedFormula u vs f) (IsFormulaFault u vs f) (AreFormulasFault u vs fs) (λ h. formula_never f vs scope h.0 h.1 h.2) (formula_fault_one f vs scope) (formulas_fault_one fs vs scope)

  -- a well-sorted statement that stands for the formula
  abbrev pub IsSortedStatement : Variables → tree.Formula → plain.Statement → Type 0
  IsSortedStatement vs f s = IsStatement u vs f s × IsWellSorted u vs s

  pub formula_outcome : (vs : Variables) → IsScope u vs → (f : tree.Formula) → HasOneOutcome (IsSortedStatement vs f) (IsFormulaFault u vs f)
  formula_outcome vs scope f = record {
    one = λ s t h k. statement_one f vs scope s t h.0 h.1 k.0;
    never = λ s h. formula_never f vs scope s h.0 h.1;
    same = formula_fault_one f vs scope;
  }
