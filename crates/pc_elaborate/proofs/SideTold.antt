-- What is told of the sides of a comparison.
use Rattle.std.proofs.Common.{◌≡◌, ℕ, suc, ◌+◌, ◌<◌, ◌≤◌, ℤ, List, [], ◌∷◌, ◌++◌, append_assoc, append-nil, Bool, true, false, All, Ok, Err, length, map, drop, get_or, arith, ap, ◌∙◌, sym, subst, refl, inl, inr, Vec, Global, vec_len, not, ◌==◌}
use Rattle.std.proofs.Math.Seq.{drop-cons}
use Rattle.std.proofs.lemmas.List.{drop_all, map-append}
use Rattle.std.proofs.lemmas.List.Elements.{All-nil, All-push}
use Rattle.std.proofs.lemmas.Bool.Decides.{nat_tests}
use Rattle.pc_name.specs.declared.sign.Op.{Op}
use Rattle.pc_name.specs.declared.sign.Sign.{Sign}
use Rattle.pc_formula.specs.Tree as tree
use Rattle.pc_formula.specs.Tree.{integer, named, no_item, one_item}
use Rattle.pc_formula.specs.Sized.{IsSizedSide}
use Rattle.pc_formula.specs.declared.tree.ItemTree.{ItemTree}
use Rattle.pc_sheet.specs.Sheet as plain
use Rattle.pc_sheet.specs.Sheet.{Universe}
use Rattle.pc_sheet.specs.Sizes.{values_at}
use Rattle.pc_sheet.specs.Views.{item_of, added_of}
use Rattle.pc_sheet.specs.WellSorted.{Variables, IsListed, IsRange, IsOfSort, IsInteger, IsSmallNumber, IsIntegerSum, IsValueOf, AreComparable}
use Rattle.pc_sheet.specs.declared.formula.Term.{Term}
use Rattle.pc_sheet.specs.declared.formula.Term.TheVariants as terms
use Rattle.pc_sheet.specs.declared.ids.SortId.{SortId}
use Rattle.pc_elaborate.specs.declared.fault.SortFault.{SortFault}
use Rattle.pc_elaborate.specs.declared.fault.SortFault.TheVariants.{WrongSort}
use Rattle.pc_elaborate.specs.declared.sides.Kind.{Kind}
use Rattle.pc_elaborate.specs.declared.sides.Kind.TheVariants.{Integer, Listed}
use Rattle.pc_elaborate.specs.Outcome.{HasUniqueNames}
use Rattle.pc_elaborate.specs.inside.Scope.{IsScope}
use Rattle.pc_elaborate.specs.Elaboration.{IsItem, is_number, AreAdded}
use Rattle.pc_elaborate.specs.FormulaFaults.{IsItemFault, is_several, IsSideItem, IsSideItemFault, AreAddedFault, AreAddedItems, IsSideFault}
use Rattle.pc_elaborate.specs.Told.{IsItemTold, IsKindOf, IsItemOfKind, IsSumOfKind, MayStand, MayCompare, IsSideItemTold, AreAddedTold, IsSideTold}
use Rattle.pc_elaborate.proofs.Shapes.{item_shape}
use Rattle.pc_elaborate.proofs.ItemLaws.{never_both_kinds, sort_one, item_one}
use Rattle.pc_elaborate.proofs.SideLaws.{integer_passes, value_passes}
use Rattle.pc_elaborate.proofs.ItemTold.{fault_from, item_of-Number}

module _ (u : Universe) (vs : Variables) where
  -- ---- kinds

  -- what is an integer isn't of a listed sort
  pub no_listed_integer : (x : plain.Item) (s : SortId) → IsInteger u vs x → IsOfSort u vs x s → IsListed (values_at u s) → ⊥
  no_listed_integer (plain.variable k) s i h l = never_both_kinds (values_at u s) l (subst (λ r. IsRange (values_at u r)) (sort_one u vs (plain.variable k) i.0 s i.1 h) i.2)
  no_listed_integer (plain.constant t v) s i h l = i
  no_listed_integer (plain.number z) s i h l = h
  no_listed_integer (plain.cell f xs) s i h l = never_both_kinds (values_at u s) l (subst (λ r. IsRange (values_at u r)) (sort_one u vs (plain.cell f xs) i.0 s i.1 h) i.2)

  bare_constant : (n : List ℕ) (t : SortId) (items : tree.Items) (v : plain.Item) (x : plain.Item) → IsItem u vs (named n items) x → (s : SortId) → IsOfSort u vs x s → IsRange (values_at u s) → IsInteger u vs x
  bare_constant n t items v (plain.variable k) h s sorted r = (s, sorted, r)
  bare_constant n t items v (plain.number z) h s sorted r = absurd sorted
  bare_constant n t items v (plain.cell f xs) h s sorted r = (s, sorted, r)
  bare_constant n t no_item v (plain.constant q w) h s sorted r = elim (item_shape u vs (named n no_item) (plain.constant q w) h) [
    | inl p ↦ (let e = p.2 in absurd (cc))
    | inr o ↦ elim o [
      | inl p ↦ (let e : plain.constant q w ≡ plain.constant p.0 p.1 = p.2 in let same : p.0 ≡ s = (let k : q ≡ p.0 = cc in sym k ∙ sorted.0) in absurd (never_both_kinds (values_at u s) (subst (λ y. IsListed (values_at u y)) same p.3) r))
      | inr p ↦ (let e = p.3 in absurd (cc))
    ]
  ]
  bare_constant n t (one_item a items) v (plain.constant q w) h s sorted r = let p = item_shape u vs (named n (one_item a items)) (plain.constant q w) h in let e = p.3 in absurd (cc)

  -- a name of a range sort stands for an integer
  pub integer_of_range : (n : List ℕ) (items : tree.Items) (x : plain.Item) (s : SortId) → IsItem u vs (named n items) x → IsOfSort u vs x s → IsRange (values_at u s) → IsInteger u vs x
  integer_of_range n items x s h sorted r = bare_constant n s items x x h s sorted r

  -- ---- one item

  pub number_told : (several : Bool) (z : ℤ) → IsSmallNumber z → IsSideItemTold u vs several (integer z) (Ok (terms.Number z, Integer))
  number_told several z small =
      let P : plain.Item → Type 0 = λ x. IsItem u vs (integer z) x × IsInteger u vs x × IsSmallNumber z × Unit {0} in
      subst P (sym (item_of-Number z)) (is_number z, small, small, tt)

  module _ (several : Bool) (n : List ℕ) (items : tree.Items) where
    pub named_told : (x : Term) (s : SortId) (kind : Kind) → IsItemTold u vs (named n items) (Ok (x, s)) → IsKindOf (values_at u s) s kind → MayStand several kind → IsSideItemTold u vs several (named n items) (Ok (x, kind))
    named_told x s Integer h k may = let i = integer_of_range n items (item_of x) s h.0 h.1 k in (h.0, i, integer_passes u vs several (named n items) (item_of x) h.0 i, tt)
    named_told x s (Listed t) h k may = by several may
      where
        by : (b : Bool) → MayStand b (Listed t) → IsSideItemTold u vs b (named n items) (Ok (x, Listed t))
        by true m = absurd m
        by false m =
            let sorted = subst (IsOfSort u vs (item_of x)) (sym k.1) h.1 in
            (h.0, (sorted, subst (λ r. IsListed (values_at u r)) (sym k.1) k.0), value_passes u vs (named n items) (item_of x) s h.0 h.1, tt)

    pub named_fails : (e : SortFault) → IsItemTold u vs (named n items) (Err e) → IsSideItemTold u vs several (named n items) (Err e)
    named_fails e h = fault_from (IsItemFault u vs (named n items)) (IsSideItemFault u vs several (named n items)) (λ f k. inl k) e h

    pub named_listed : HasUniqueNames u → IsScope u vs → (x : Term) (s : SortId) (kind : Kind) → IsItemTold u vs (named n items) (Ok (x, s)) → IsKindOf (values_at u s) s kind → ¬ MayStand several kind → IsSideItemTold u vs several (named n items) (Err WrongSort)
    named_listed unique scope x s Integer h k may = absurd (may tt)
    named_listed unique scope x s (Listed t) h k may = by several may
      where
        by : (b : Bool) → ¬ MayStand b (Listed t) → IsSideItemTold u vs b (named n items) (Err WrongSort)
        by false m = absurd (m tt)
        by true m =
            let lacks : ¬ IsSideItem u vs true (named n items) = λ q.
            let same = item_one u unique vs scope (named n items) q.0 (item_of x) q.1 h.0 in
            no_listed_integer (item_of x) s (subst (IsInteger u vs) same q.2) h.1 k.0 in
            inr ((item_of x, s, h.0, h.1), inl (lacks, refl))

  -- ---- items in a row

  module _ (rest : List (Sign × ItemTree)) where
    pub record AddedSoFar (i : ℕ) (ts : List (Sign × Term)) : Type 0 where
      pub stand : (ys : List (Sign × plain.Item)) → AreAdded u vs (map tree.added_of (drop i rest)) ys → AreAdded u vs (map tree.added_of rest) (map added_of ts ++ ys)
      pub integers : All (λ x. IsInteger u vs x.1) (map added_of ts)
      pub pass : AreAddedItems u vs (map tree.added_of (drop i rest)) → AreAddedItems u vs (map tree.added_of rest)
      pub fails : (e : SortFault) → AreAddedFault u vs (map tree.added_of (drop i rest)) e → AreAddedFault u vs (map tree.added_of rest) e

    pub none_added_yet : (ts : List (Sign × Term)) → ts ≡ [] → AddedSoFar 0 ts
    none_added_yet ts none = subst (AddedSoFar 0) (sym none) (record { stand = λ ys h. h; integers = All-nil (λ (x : Sign × plain.Item). IsInteger u vs x.1); pass = λ h. h; fails = λ e h. h })

    module _ (i : ℕ) (x : Sign × ItemTree) (below : i < length rest) (xi : x ≡ get_or rest i x) where
      rest_from : drop i rest ≡ x ∷ drop (suc i) rest
      rest_from = drop-cons rest i x below ∙ ap (λ t. t ∷ drop (suc i) rest) (sym xi)

      pub one_added_more : (ts now : List (Sign × Term)) (t : Term) (kind : Kind) → AddedSoFar i ts → now ≡ ts ++ (x.0, t) ∷ [] → IsSideItemTold u vs true (tree.item_of x.1) (Ok (t, kind)) → AddedSoFar (i + 1) now
      one_added_more ts now t kind h pushed told =
          let place : suc i ≡ i + 1 = omega arith in
          let all : map added_of now ≡ map added_of ts ++ (x.0, item_of t) ∷ [] = ap (map added_of) pushed ∙ map-append added_of ts ((x.0, t) ∷ []) in
          let Q : List (Sign × plain.Item) → Type 0 = λ ys. AreAdded u vs (map tree.added_of rest) ys in
          subst (λ k. AddedSoFar k now) place (record {
            stand = λ ys k. subst Q (sym (append_assoc (map added_of ts) ((x.0, item_of t) ∷ []) ys) ∙ ap (λ zs. zs ++ ys) (sym all))
                (h.stand ((x.0, item_of t) ∷ ys) (subst (λ zs. AreAdded u vs (map tree.added_of zs) ((x.0, item_of t) ∷ ys)) (sym rest_from) (refl, told.0, k)));
            integers = subst (All (λ (y : Sign × plain.Item). IsInteger u vs y.1)) (sym all) (All-push (λ (y : Sign × plain.Item). IsInteger u vs y.1) (map added_of ts) (x.0, item_of t) h.integers (beside kind told.3 told.1));
            pass = λ k. h.pass (subst (λ zs. AreAddedItems u vs (map tree.added_of zs)) (sym rest_from) (told.2, k));
            fails = λ e k. h.fails e (subst (λ zs. AreAddedFault u vs (map tree.added_of zs) e) (sym rest_from) (inr (told.2, k)));
          })
        where
          beside : (kind : Kind) → MayStand true kind → IsItemOfKind u vs (item_of t) kind → IsInteger u vs (item_of t)
          beside Integer m k = k
          beside (Listed s) m k = absurd m

      pub one_added_fails : (ts : List (Sign × Term)) (e : SortFault) → AddedSoFar i ts → IsSideItemTold u vs true (tree.item_of x.1) (Err e) → AreAddedTold u vs (map tree.added_of rest) (Err e)
      one_added_fails ts e h told = fault_from (IsSideItemFault u vs true (tree.item_of x.1)) (AreAddedFault u vs (map tree.added_of rest))
          (λ f k. h.fails f (subst (λ zs. AreAddedFault u vs (map tree.added_of zs) f) (sym rest_from) (inl k))) e told

    pub every_added : (i : ℕ) (v : Vec (Sign × Term) Global) → length rest ≤ i → AddedSoFar i v.items → AreAddedTold u vs (map tree.added_of rest) (Ok v)
    every_added i v l h =
        let none = drop_all i rest l in
        let given = h.stand [] (subst (λ zs. AreAdded u vs (map tree.added_of zs) []) (sym none) tt) in
        let pass = h.pass (subst (λ zs. AreAddedItems u vs (map tree.added_of zs)) (sym none) tt) in
        (subst (AreAdded u vs (map tree.added_of rest)) (append-nil (map added_of v.items)) given, h.integers, pass)

  -- ---- sides

  as_many_added : (items : List (Sign × tree.Item)) (xs : List (Sign × plain.Item)) → AreAdded u vs items xs → length xs ≡ length items
  as_many_added [] [] h = refl
  as_many_added [] (x ∷ xs) h = absurd h
  as_many_added (a ∷ items) [] h = absurd h
  as_many_added (a ∷ items) (x ∷ xs) h = ap suc (as_many_added items xs h.2)

  no_rest : (items : List (Sign × tree.Item)) (xs : List (Sign × plain.Item)) → is_several items ≡ false → AreAdded u vs items xs → xs ≡ []
  no_rest [] [] e h = refl
  no_rest [] (x ∷ xs) e h = absurd h
  no_rest (a ∷ items) xs e h = absurd (cc)

  module _ (side : tree.Side) (several : Bool) (same : several ≡ is_several side.rest) where
    pub side_told : (x : Term) (kind : Kind) (ts : Vec (Sign × Term) Global) → IsSizedSide side → IsSideItemTold u vs several side.first (Ok (x, kind)) → AreAddedTold u vs side.rest (Ok ts)
        → IsSideTold u vs side (Ok (record { first = x; rest = ts }, kind))
    side_told x kind ts sized h k =
        let pass = subst (λ b. IsSideItem u vs b side.first) same h.2 in
        ((h.0, k.0), by kind h.1 h.3, (pass, k.2))
      where
        by : (kind : Kind) → IsItemOfKind u vs (item_of x) kind → MayStand several kind → IsSumOfKind u vs (record { first = item_of x; rest = map added_of ts.items }) kind
        by Integer i m = let n = as_many_added side.rest (map added_of ts.items) k.0 in (i, k.1, omega (arith, n, sized))
        by (Listed s) i m = (no_rest side.rest (map added_of ts.items) (sym same ∙ alone several m) k.0, i.0, i.1)
          where
            alone : (b : Bool) → MayStand b (Listed s) → b ≡ false
            alone true m = absurd m
            alone false m = refl

    pub first_fails : (e : SortFault) → IsSideItemTold u vs several side.first (Err e) → IsSideTold u vs side (Err e)
    first_fails e h = fault_from (IsSideItemFault u vs several side.first) (IsSideFault u vs side) (λ f k. inl (subst (λ b. IsSideItemFault u vs b side.first f) same k)) e h

    pub rest_fails : (x : Term) (kind : Kind) (e : SortFault) → IsSideItemTold u vs several side.first (Ok (x, kind)) → AreAddedTold u vs side.rest (Err e) → IsSideTold u vs side (Err e)
    rest_fails x kind e h k = fault_from (AreAddedFault u vs side.rest) (IsSideFault u vs side) (λ f m. inr (subst (λ b. IsSideItem u vs b side.first) same h.2, m)) e k

  -- ---- comparing

  pub no_value_of_integers : (x : plain.Sum) (s : SortId) → IsIntegerSum u vs x → IsValueOf u vs s x → ⊥
  no_value_of_integers x s i v = no_listed_integer x.first s i.0 v.1 v.2

  pub comparable : (x y : plain.Sum) (op : Op) (k m : Kind) → IsSumOfKind u vs x k → IsSumOfKind u vs y m → MayCompare k op m → AreComparable u vs x op y
  comparable x y op Integer Integer h g may = inl (h, g)
  comparable x y op Integer (Listed t) h g may = absurd may
  comparable x y op (Listed s) Integer h g may = absurd may
  comparable x y op (Listed s) (Listed t) h g may = inr (may.0, (s, h, subst (λ r. IsValueOf u vs r y) (sym may.1) g))

  pub may_compare : (x y : plain.Sum) (op : Op) (k m : Kind) → IsSumOfKind u vs x k → IsSumOfKind u vs y m → AreComparable u vs x op y → MayCompare k op m
  may_compare x y op Integer Integer h g c = tt
  may_compare x y op Integer (Listed t) h g (inl c) = no_value_of_integers y t c.1 g
  may_compare x y op Integer (Listed t) h g (inr c) = no_value_of_integers x c.1.0 h c.1.1
  may_compare x y op (Listed s) Integer h g (inl c) = no_value_of_integers x s c.0 h
  may_compare x y op (Listed s) Integer h g (inr c) = no_value_of_integers y c.1.0 g c.1.2
  may_compare x y op (Listed s) (Listed t) h g (inl c) = absurd (no_value_of_integers x s c.0 h)
  may_compare x y op (Listed s) (Listed t) h g (inr c) = (c.0, sort_one u vs x.first s c.1.0 h.1 c.1.1.1 ∙ sort_one u vs y.first c.1.0 t c.1.2.1 g.1)

-- whether items stand behind the first
pub several_is : (v : Vec (Sign × ItemTree) Global) (b : Bool) → b ≡ (vec_len v == 0) → not b ≡ is_several (map tree.added_of v.items)
several_is v b is = by v.items (vec_len v) v.ok.0 b is
  where
    by : (xs : List (Sign × ItemTree)) (n : ℕ) → n ≡ length xs → (b : Bool) → b ≡ (n == 0) → not b ≡ is_several (map tree.added_of xs)
    by [] n len b e = ap not (e ∙ ap (λ m. m == 0) len)
    by (x ∷ xs) n len true e = let some : n ≡ 0 = grind (arith, nat_tests) in absurd (omega (arith, some, len))
    by (x ∷ xs) n len false e = refl
