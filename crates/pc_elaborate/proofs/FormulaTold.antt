-- What is told of formulas.
use Rattle.std.proofs.Common.{◌≡◌, ◌⊎◌, ℕ, ℤ, zero, suc, Bool, ◌+◌, ◌<◌, ◌≤◌, List, [], ◌∷◌, ◌++◌, Result, Ok, Err, IfOk, length, map, drop, get_or, arith, rules, ap, ◌∙◌, sym, subst, refl, inl, inr, Vec, Box, Global}
use Rattle.std.proofs.Math.Seq.{drop-cons}
use Rattle.std.proofs.lemmas.List.{drop_all, map-append}
use Rattle.pc_name.specs.Names.{IsName}
use Rattle.pc_formula.specs.Tree as tree
use Rattle.pc_formula.specs.Tree.{formula_of, parts_of, no_part}
use Rattle.pc_formula.specs.Nesting as written
use Rattle.pc_formula.specs.Sized.{IsSized, AreSized, count_parts}
use Rattle.pc_formula.specs.declared.tree.FormulaTree.{FormulaTree}
use Rattle.pc_sheet.specs.Sheet as plain
use Rattle.pc_sheet.specs.Sheet.{Universe}
use Rattle.pc_sheet.specs.Nesting as built
use Rattle.pc_sheet.specs.Views.{counting_of, statement_of, statements_of}
use Rattle.pc_sheet.specs.WellSorted.{Variables, IsWellSorted, AreWellSorted, AreTwoOrMore, parts_in}
use Rattle.pc_sheet.specs.declared.formula.Formula.{Formula, the_lemmas}
use Rattle.pc_sheet.specs.declared.formula.Formula.TheVariants as formulas
use Rattle.pc_sheet.specs.declared.ids.SortId.{SortId}
use Rattle.pc_elaborate.specs.declared.fault.SortFault.{SortFault}
use Rattle.pc_elaborate.specs.declared.fault.SortFault.TheVariants as faults
use Rattle.pc_elaborate.specs.declared.fault.SortFault.TheVariants.{DuplicateName, Limit}
use Rattle.pc_sheet.specs.declared.limits.Limited.TheVariants.{Depth}
use Rattle.pc_elaborate.specs.Tests.{no_test}
use Rattle.pc_elaborate.specs.Outcome.{HasUniqueNames, IsFoundOrFault}
use Rattle.pc_elaborate.specs.inside.Scope.{IsScope}
use Rattle.pc_elaborate.specs.Elaboration.{IsSortNamed, IsStatement, is_negation, is_conjunction, is_disjunction, is_implication, is_equivalence, is_universal, is_existential, is_counting, AreStatements, no_statements_left, one_statement}
use Rattle.pc_elaborate.specs.FormulaFaults.{IsDeclared, IsAround, IsSortNameFault, IsQuantifierFault, IsFormulaFault, AreFormulasFault}
use Rattle.pc_elaborate.specs.Told.{IsFaultOf, IsFormulaTold, IsBoxedTold, IsCountTold, IsVariableTold, IsQuantifiedTold, AreFormulasTold, TellsStatement, TellsFault}
use Rattle.pc_elaborate.proofs.Shapes.{parts_shape}
use Rattle.pc_elaborate.proofs.FormulaLaws.{formula_outcome, sort_below, inner_scope, no_scope}
use Rattle.pc_elaborate.proofs.NestingLaws.{nests}
use Rattle.pc_elaborate.proofs.ItemTold.{fault_from, fault_of}

-- ---- views

pub statement_of-Not : (b : Box Formula Global) → statement_of (formulas.Not b) ≡ plain.negation (statement_of b.value)
statement_of-Not b = search (rules, the_lemmas)

pub statement_of-And : (v : Vec Formula Global) → statement_of (formulas.And v) ≡ plain.all_of (statements_of (map statement_of v.items))
statement_of-And v = search (rules, the_lemmas)

pub statement_of-Or : (v : Vec Formula Global) → statement_of (formulas.Or v) ≡ plain.some_of (statements_of (map statement_of v.items))
statement_of-Or v = search (rules, the_lemmas)

pub statement_of-Implies : (a b : Box Formula Global) → statement_of (formulas.Implies a b) ≡ plain.implies (statement_of a.value) (statement_of b.value)
statement_of-Implies a b = search (rules, the_lemmas)

pub statement_of-Iff : (a b : Box Formula Global) → statement_of (formulas.Iff a b) ≡ plain.iff (statement_of a.value) (statement_of b.value)
statement_of-Iff a b = search (rules, the_lemmas)

pub statement_of-ForAll : (n : List ℕ) (s : SortId) (b : Box Formula Global) → statement_of (formulas.ForAll n s b) ≡ plain.for_all n s (statement_of b.value)
statement_of-ForAll n s b = search (rules, the_lemmas)

pub statement_of-Exists : (n : List ℕ) (s : SortId) (b : Box Formula Global) → statement_of (formulas.Exists n s b) ≡ plain.exists n s (statement_of b.value)
statement_of-Exists n s b = search (rules, the_lemmas)

pub statement_of-Count : (m : Bool) (k : ℕ) (n : List ℕ) (s : SortId) (b : Box Formula Global) → statement_of (formulas.Count m k n s b) ≡ plain.counts (counting_of m k) n s (statement_of b.value)
statement_of-Count m k n s b = search (rules, the_lemmas)

-- ---- the public clauses, from what is told

module _ (u : Universe) (unique : HasUniqueNames u) (f : tree.Formula) where
  law : (s : plain.Statement) → IsStatement u [] f s → IsWellSorted u [] s → (e : SortFault) → ¬ IsFormulaFault u [] f e
  law s h k = (formula_outcome u unique [] (no_scope u) f).never s (h, k)

  fault_never : (s : plain.Statement) → IsStatement u [] f s → IsWellSorted u [] s → (e : SortFault) → IsFaultOf (IsFormulaFault u [] f) e → TellsStatement (Err e) s
  fault_never s h k faults.UnknownName m = law s h k faults.UnknownName m
  fault_never s h k faults.DuplicateName m = law s h k faults.DuplicateName m
  fault_never s h k faults.WrongArity m = law s h k faults.WrongArity m
  fault_never s h k faults.WrongSort m = law s h k faults.WrongSort m
  fault_never s h k faults.NotAValue m = law s h k faults.NotAValue m
  fault_never s h k faults.EmptySort m = law s h k faults.EmptySort m
  fault_never s h k (faults.Limit limited) m = law s h k (faults.Limit limited) m
  fault_never s h k faults.Memory m = tt

  pub tells_only : (r : Result Formula SortFault) → IsFormulaTold u [] f r → (s : plain.Statement) → IsStatement u [] f s → IsWellSorted u [] s → TellsStatement r s
  tells_only (Ok g) told s h k = (formula_outcome u unique [] (no_scope u) f).one s (statement_of g) (h, k) told
  tells_only (Err e) told s h k = fault_never s h k e told

  pub tells_fault : (r : Result Formula SortFault) → IsFormulaTold u [] f r → (e : SortFault) → IsFormulaFault u [] f e → TellsFault r e
  tells_fault (Ok g) told e h = law (statement_of g) told.0 told.1 e h
  tells_fault (Err d) told e h = fault_from (IsFormulaFault u [] f) (λ c. c ≡ e) (λ c k. (formula_outcome u unique [] (no_scope u) f).same c e k h) d told

pub tells_nesting : (u : Universe) (f : tree.Formula) (r : Result Formula SortFault) → IsFormulaTold u [] f r → IfOk r (λ g. built.nesting_of (statement_of g) ≡ written.nesting_of f)
tells_nesting u f (Ok g) told = nests u f [] (statement_of g) told.0
tells_nesting u f (Err e) told = tt

-- ---- connectives

module _ (u : Universe) (vs : Variables) where
  abbrev pub IsSorted : tree.Formula → plain.Statement → Type 0
  IsSorted f s = IsStatement u vs f s × IsWellSorted u vs s

  module _ (whole f : tree.Formula) (is : whole ≡ tree.not f) where
    pub not_told : (b : Box Formula Global) → IsBoxedTold u vs f (Ok b) → IsFormulaTold u vs whole (Ok (formulas.Not b))
    not_told b h = subst (λ w. IsSorted w (statement_of (formulas.Not b))) (sym is) (subst (IsSorted (tree.not f)) (sym (statement_of-Not b)) (is_negation vs f (statement_of b.value) h.0, h.1))

    pub not_fails : (e : SortFault) → IsBoxedTold u vs f (Err e) → IsFormulaTold u vs whole (Err e)
    not_fails e h = subst (λ w. IsFaultOf (IsFormulaFault u vs w) e) (sym is) h

  parts_counted : (fs : tree.Formulas) (ss : plain.Statements) → AreStatements u vs fs ss → parts_in ss ≡ count_parts fs
  parts_counted no_part ss h = ap parts_in (parts_shape u vs no_part ss h)
  parts_counted (tree.part f fs) ss h =
      let p = parts_shape u vs (tree.part f fs) ss h in
      let rest = parts_counted fs p.1 p.4 in
      ap parts_in p.2 ∙ omega (arith, rest)

  are_parts : (fs : tree.Formulas) (ss : plain.Statements) → AreStatements u vs fs ss → 2 ≤ count_parts fs → count_parts fs < 4194304 → AreTwoOrMore ss
  are_parts fs ss h low high = let n = parts_counted fs ss h in (omega (arith, n, low), omega (arith, n, high))

  module _ (whole : tree.Formula) (fs : tree.Formulas) where
    pub and_told : whole ≡ tree.and fs → IsSized whole → (v : Vec Formula Global) → AreFormulasTold u vs fs (Ok v) → IsFormulaTold u vs whole (Ok (formulas.And v))
    and_told is sized v h =
        let size : IsSized (tree.and fs) = subst IsSized is sized in
        subst (λ w. IsSorted w (statement_of (formulas.And v))) (sym is) (subst (IsSorted (tree.and fs)) (sym (statement_of-And v))
        (is_conjunction vs fs (statements_of (map statement_of v.items)) h.0, (are_parts fs (statements_of (map statement_of v.items)) h.0 size.0 size.1, h.1)))

    pub and_fails : whole ≡ tree.and fs → (e : SortFault) → AreFormulasTold u vs fs (Err e) → IsFormulaTold u vs whole (Err e)
    and_fails is e h = subst (λ w. IsFaultOf (IsFormulaFault u vs w) e) (sym is) h

    pub or_told : whole ≡ tree.or fs → IsSized whole → (v : Vec Formula Global) → AreFormulasTold u vs fs (Ok v) → IsFormulaTold u vs whole (Ok (formulas.Or v))
    or_told is sized v h =
        let size : IsSized (tree.or fs) = subst IsSized is sized in
        subst (λ w. IsSorted w (statement_of (formulas.Or v))) (sym is) (subst (IsSorted (tree.or fs)) (sym (statement_of-Or v))
        (is_disjunction vs fs (statements_of (map statement_of v.items)) h.0, (are_parts fs (statements_of (map statement_of v.items)) h.0 size.0 size.1, h.1)))

    pub or_fails : whole ≡ tree.or fs → (e : SortFault) → AreFormulasTold u vs fs (Err e) → IsFormulaTold u vs whole (Err e)
    or_fails is e h = subst (λ w. IsFaultOf (IsFormulaFault u vs w) e) (sym is) h

  module _ (whole f g : tree.Formula) where
    pub implies_told : whole ≡ tree.implies f g → (a b : Box Formula Global) → IsBoxedTold u vs f (Ok a) → IsBoxedTold u vs g (Ok b) → IsFormulaTold u vs whole (Ok (formulas.Implies a b))
    implies_told is a b h k =
        subst (λ w. IsSorted w (statement_of (formulas.Implies a b))) (sym is) (subst (IsSorted (tree.implies f g)) (sym (statement_of-Implies a b)) (is_implication vs f g (statement_of a.value) (statement_of b.value) h.0 k.0, (h.1, k.1)))

    pub iff_told : whole ≡ tree.iff f g → (a b : Box Formula Global) → IsBoxedTold u vs f (Ok a) → IsBoxedTold u vs g (Ok b) → IsFormulaTold u vs whole (Ok (formulas.Iff a b))
    iff_told is a b h k =
        subst (λ w. IsSorted w (statement_of (formulas.Iff a b))) (sym is) (subst (IsSorted (tree.iff f g)) (sym (statement_of-Iff a b)) (is_equivalence vs f g (statement_of a.value) (statement_of b.value) h.0 k.0, (h.1, k.1)))

    pub implies_left : whole ≡ tree.implies f g → (e : SortFault) → IsBoxedTold u vs f (Err e) → IsFormulaTold u vs whole (Err e)
    implies_left is e h = subst (λ w. IsFaultOf (IsFormulaFault u vs w) e) (sym is) (fault_from (IsFormulaFault u vs f) (IsFormulaFault u vs (tree.implies f g)) (λ c k. inl k) e h)

    pub iff_left : whole ≡ tree.iff f g → (e : SortFault) → IsBoxedTold u vs f (Err e) → IsFormulaTold u vs whole (Err e)
    iff_left is e h = subst (λ w. IsFaultOf (IsFormulaFault u vs w) e) (sym is) (fault_from (IsFormulaFault u vs f) (IsFormulaFault u vs (tree.iff f g)) (λ c k. inl k) e h)

    pub implies_right : whole ≡ tree.implies f g → (a : Box Formula Global) (e : SortFault) → IsBoxedTold u vs f (Ok a) → IsBoxedTold u vs g (Err e) → IsFormulaTold u vs whole (Err e)
    implies_right is a e h k = subst (λ w. IsFaultOf (IsFormulaFault u vs w) e) (sym is) (fault_from (IsFormulaFault u vs g) (IsFormulaFault u vs (tree.implies f g)) (λ c m. inr ((statement_of a.value, h.0, h.1), m)) e k)

    pub iff_right : whole ≡ tree.iff f g → (a : Box Formula Global) (e : SortFault) → IsBoxedTold u vs f (Ok a) → IsBoxedTold u vs g (Err e) → IsFormulaTold u vs whole (Err e)
    iff_right is a e h k = subst (λ w. IsFaultOf (IsFormulaFault u vs w) e) (sym is) (fault_from (IsFormulaFault u vs g) (IsFormulaFault u vs (tree.iff f g)) (λ c m. inr ((statement_of a.value, h.0, h.1), m)) e k)

  -- ---- quantifiers

  module _ (whole : tree.Formula) (n sort : List ℕ) (f : tree.Formula) where
    pub for_all_told : whole ≡ tree.for_all n sort f → (m : List ℕ) (s : SortId) (b : Box Formula Global) → IsQuantifiedTold u vs n sort f (Ok (m, s, b)) → IsFormulaTold u vs whole (Ok (formulas.ForAll m s b))
    for_all_told is m s b h =
        let P : plain.Statement → Type 0 = IsSorted (tree.for_all n sort f) in
        subst (λ w. IsSorted w (statement_of (formulas.ForAll m s b))) (sym is) (subst P (sym (statement_of-ForAll m s b)) (subst (λ k. P (plain.for_all k s (statement_of b.value))) (sym h.0)
        (is_universal vs n sort f s (statement_of b.value) h.1 h.3, (h.2, h.4))))

    pub exists_told : whole ≡ tree.exists n sort f → (m : List ℕ) (s : SortId) (b : Box Formula Global) → IsQuantifiedTold u vs n sort f (Ok (m, s, b)) → IsFormulaTold u vs whole (Ok (formulas.Exists m s b))
    exists_told is m s b h =
        let P : plain.Statement → Type 0 = IsSorted (tree.exists n sort f) in
        subst (λ w. IsSorted w (statement_of (formulas.Exists m s b))) (sym is) (subst P (sym (statement_of-Exists m s b)) (subst (λ k. P (plain.exists k s (statement_of b.value))) (sym h.0)
        (is_existential vs n sort f s (statement_of b.value) h.1 h.3, (h.2, h.4))))

    pub for_all_fails : whole ≡ tree.for_all n sort f → (e : SortFault) → IsQuantifiedTold u vs n sort f (Err e) → IsFormulaTold u vs whole (Err e)
    for_all_fails is e h = subst (λ w. IsFaultOf (IsFormulaFault u vs w) e) (sym is) h

    pub exists_fails : whole ≡ tree.exists n sort f → (e : SortFault) → IsQuantifiedTold u vs n sort f (Err e) → IsFormulaTold u vs whole (Err e)
    exists_fails is e h = subst (λ w. IsFaultOf (IsFormulaFault u vs w) e) (sym is) h

    module _ (m : Bool) (z : ℤ) (is : whole ≡ tree.counting m z n sort f) where
      pub count_told : (k : ℕ) → IsCountTold m z (Ok k) → (l : List ℕ) (s : SortId) (b : Box Formula Global) → IsQuantifiedTold u vs n sort f (Ok (l, s, b)) → IsFormulaTold u vs whole (Ok (formulas.Count m k l s b))
      count_told k bound l s b h =
          let P : plain.Statement → Type 0 = IsSorted (tree.counting m z n sort f) in
          let stands = subst (λ y. IsStatement u vs (tree.counting m y n sort f) (plain.counts (counting_of m k) n s (statement_of b.value))) (sym bound.0) (is_counting vs m k n sort f s (statement_of b.value) h.1 h.3) in
          subst (λ w. IsSorted w (statement_of (formulas.Count m k l s b))) (sym is) (subst P (sym (statement_of-Count m k l s b)) (subst (λ j. P (plain.counts (counting_of m k) j s (statement_of b.value))) (sym h.0)
          (stands, (bound.1, h.2, h.4))))

      pub count_fails : (k : ℕ) → IsCountTold m z (Ok k) → (e : SortFault) → IsQuantifiedTold u vs n sort f (Err e) → IsFormulaTold u vs whole (Err e)
      count_fails k bound e h =
          subst (λ w. IsFaultOf (IsFormulaFault u vs w) e) (sym is) (fault_from (IsQuantifierFault u vs n sort (λ s. IsFormulaFault u (vs ++ (n, s) ∷ []) f)) (IsFormulaFault u vs (tree.counting m z n sort f)) (λ c q. inr ((k, bound.0, bound.1), q)) e h)

  module _ (n sort : List ℕ) where
    pub deep_fails : length vs ≡ 16 → IsVariableTold u vs n sort (Err (Limit Depth))
    deep_fails deep = inl ((λ room. omega (arith, deep, room)), refl)

    pub taken_fails : length vs < 16 → IsDeclared u n ⊎ IsAround vs n → IsVariableTold u vs n sort (Err DuplicateName)
    taken_fails room taken = inr (room, inl ((λ free. free taken), refl))

    pub sort_told : IsName n → length vs < 16 → ¬ IsDeclared u n → ¬ IsAround vs n → (r : Result SortId SortFault) → IsFoundOrFault (IsSortNamed u sort) (IsSortNameFault u sort) r → IsVariableTold u vs n sort r
    sort_told name room undeclared unbound (Ok s) h = (h, record { named = name; undeclared = undeclared; unbound = unbound; sort = sort_below u sort s h; depth = room })
    sort_told name room undeclared unbound (Err e) h = inr (room, inr ((λ t. elim t [ inl a ↦ undeclared a | inr b ↦ unbound b ]), inl h))

    module _ (f : tree.Formula) where
      abbrev Body : SortId → SortFault → Type 0
      Body s = IsFormulaFault u (vs ++ (n, s) ∷ []) f

      opening : (e : SortFault) → IsQuantifierFault u vs n sort (λ s. no_test) e → IsQuantifierFault u vs n sort Body e
      opening e (inl h) = inl h
      opening e (inr (h, inl k)) = inr (h, inl k)
      opening e (inr (h, inr (k, inl m))) = inr (h, inr (k, inl m))
      opening e (inr (h, inr (k, inr m))) = absurd m.1.2

      pub variable_fails : (e : SortFault) → IsVariableTold u vs n sort (Err e) → IsQuantifiedTold u vs n sort f (Err e)
      variable_fails e h = fault_of (IsQuantifierFault u vs n sort Body) e (opening e h)

      module _ (s : SortId) (told : IsVariableTold u vs n sort (Ok s)) where
        free : ¬ (IsDeclared u n ⊎ IsAround vs n)
        free t = elim t [ inl a ↦ told.1.undeclared a | inr b ↦ told.1.unbound b ]

        pub scope_inside : IsScope u vs → (ws : Variables) → ws ≡ vs ++ (n, s) ∷ [] → IsScope u ws
        scope_inside scope ws is = subst (IsScope u) (sym is) (inner_scope u vs scope n s free told.1.depth told.1.sort)

        pub body_fails : (ws : Variables) → ws ≡ vs ++ (n, s) ∷ [] → (e : SortFault) → IsBoxedTold u ws f (Err e) → IsQuantifiedTold u vs n sort f (Err e)
        body_fails ws is e h = fault_from (IsFormulaFault u ws f) (IsQuantifierFault u vs n sort Body)
            (λ c k. inr (told.1.depth, inr (free, inr ((s, told.0), (s, told.0, subst (λ v. IsFormulaFault u v f c) is k))))) e h

        pub quantified_told : (ws : Variables) → ws ≡ vs ++ (n, s) ∷ [] → (m : List ℕ) → m ≡ n → (b : Box Formula Global) → IsBoxedTold u ws f (Ok b) → IsQuantifiedTold u vs n sort f (Ok (m, s, b))
        quantified_told ws is m same b h = let inside = subst (λ v. IsStatement u v f (statement_of b.value) × IsWellSorted u v (statement_of b.value)) is h in (same, told.0, told.1, inside.0, inside.1)

  -- ---- parts in a row

  -- statements, and then these
  abbrev pub then_these : List plain.Statement → plain.Statements → plain.Statements
  then_these [] ys = ys
  then_these (x ∷ xs) ys = plain.statement x (then_these xs ys)

  then_more : (xs : List plain.Statement) (x : plain.Statement) (ys : plain.Statements) → then_these (xs ++ x ∷ []) ys ≡ then_these xs (plain.statement x ys)
  then_more [] x ys = refl
  then_more (z ∷ xs) x ys = ap (plain.statement z) (then_more xs x ys)

  then_none : (xs : List plain.Statement) → then_these xs plain.no_statements ≡ statements_of xs
  then_none [] = refl
  then_none (x ∷ xs) = ap (plain.statement x) (then_none xs)

  module _ (ts : List FormulaTree) where
    pub record PartsSoFar (i : ℕ) (gs : List Formula) : Type 0 where
      pub stand : (ys : plain.Statements) → AreStatements u vs (parts_of (map formula_of (drop i ts))) ys → AreStatements u vs (parts_of (map formula_of ts)) (then_these (map statement_of gs) ys)
      pub sorted : (ys : plain.Statements) → AreWellSorted u vs ys → AreWellSorted u vs (then_these (map statement_of gs) ys)
      pub fails : (e : SortFault) → AreFormulasFault u vs (parts_of (map formula_of (drop i ts))) e → AreFormulasFault u vs (parts_of (map formula_of ts)) e

    pub no_part_yet : (gs : List Formula) → gs ≡ [] → PartsSoFar 0 gs
    no_part_yet gs none = subst (PartsSoFar 0) (sym none) (record { stand = λ ys h. h; sorted = λ ys h. h; fails = λ e h. h })

    module _ (i : ℕ) (x : FormulaTree) (below : i < length ts) (xi : x ≡ get_or ts i x) where
      rest_from : drop i ts ≡ x ∷ drop (suc i) ts
      rest_from = drop-cons ts i x below ∙ ap (λ t. t ∷ drop (suc i) ts) (sym xi)

      pub one_part_more : (gs now : List Formula) (g : Formula) → PartsSoFar i gs → now ≡ gs ++ g ∷ [] → IsFormulaTold u vs (formula_of x) (Ok g) → PartsSoFar (i + 1) now
      one_part_more gs now g h pushed told =
          let place : suc i ≡ i + 1 = omega arith in
          let all : map statement_of now ≡ map statement_of gs ++ statement_of g ∷ [] = ap (map statement_of) pushed ∙ map-append statement_of gs (g ∷ []) in
          let joined : (ys : plain.Statements) → then_these (map statement_of gs) (plain.statement (statement_of g) ys) ≡ then_these (map statement_of now) ys = λ ys. sym (then_more (map statement_of gs) (statement_of g) ys) ∙ ap (λ zs. then_these zs ys) (sym all) in
          subst (λ k. PartsSoFar k now) place (record {
            stand = λ ys k. subst (AreStatements u vs (parts_of (map formula_of ts))) (joined ys) (h.stand (plain.statement (statement_of g) ys)
                (subst (λ zs. AreStatements u vs (parts_of (map formula_of zs)) (plain.statement (statement_of g) ys)) (sym rest_from) (one_statement vs (formula_of x) (parts_of (map formula_of (drop (suc i) ts))) (statement_of g) ys told.0 k)));
            sorted = λ ys k. subst (AreWellSorted u vs) (joined ys) (h.sorted (plain.statement (statement_of g) ys) (told.1, k));
            fails = λ e k. h.fails e (subst (λ zs. AreFormulasFault u vs (parts_of (map formula_of zs)) e) (sym rest_from) (inr ((statement_of g, told.0, told.1), k)));
          })

      pub one_part_fails : (gs : List Formula) (e : SortFault) → PartsSoFar i gs → IsFormulaTold u vs (formula_of x) (Err e) → AreFormulasTold u vs (parts_of (map formula_of ts)) (Err e)
      one_part_fails gs e h told = fault_from (IsFormulaFault u vs (formula_of x)) (AreFormulasFault u vs (parts_of (map formula_of ts)))
          (λ c k. h.fails c (subst (λ zs. AreFormulasFault u vs (parts_of (map formula_of zs)) c) (sym rest_from) (inl k))) e told

    pub every_part : (i : ℕ) (v : Vec Formula Global) → length ts ≤ i → PartsSoFar i v.items → AreFormulasTold u vs (parts_of (map formula_of ts)) (Ok v)
    every_part i v l h =
        let none = drop_all i ts l in
        let given = h.stand plain.no_statements (subst (λ zs. AreStatements u vs (parts_of (map formula_of zs)) plain.no_statements) (sym none) (no_statements_left vs)) in
        let all = then_none (map statement_of v.items) in
        (subst (AreStatements u vs (parts_of (map formula_of ts))) all given, subst (AreWellSorted u vs) all (h.sorted plain.no_statements tt))

pub sized_at : (ts : List FormulaTree) (i : ℕ) (d : FormulaTree) → AreSized (parts_of (map formula_of ts)) → i < length ts → d ≡ get_or ts i d → IsSized (formula_of d)
sized_at [] i d h l is = absurd (omega arith)
sized_at (x ∷ ts) zero d h l is = subst (λ t. IsSized (formula_of t)) (sym is) h.0
sized_at (x ∷ ts) (suc i) d h l is = sized_at ts i d h.1 (omega arith) is
