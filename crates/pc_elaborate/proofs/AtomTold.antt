-- What is told of comparisons and table atoms.
use Rattle.std.proofs.Common.{◌≡◌, ℕ, zero, suc, ◌+◌, ◌<◌, ◌≤◌, List, [], ◌∷◌, Option, None, Some, slice_get, IsSomeAnd, All, Ok, Err, length, map, arith, rules, ◌∙◌, sym, subst, refl, inl, inr, Vec, Global}
use Rattle.std.proofs.lemmas.List.Elements.{All-head, All-tail}
use Rattle.pc_name.specs.declared.sign.Op.{Op}
use Rattle.pc_formula.specs.Tree as tree
use Rattle.pc_sheet.specs.Sheet as plain
use Rattle.pc_sheet.specs.Sheet.{Universe, Table}
use Rattle.pc_sheet.specs.Views as views
use Rattle.pc_sheet.specs.Views.{item_of, sum_of, statement_of}
use Rattle.pc_sheet.specs.WellFormed.{IsDeclaredSort, IsWellFormedUniverse, IsWellFormedTable}
use Rattle.pc_sheet.specs.WellSorted.{Variables, AreOfSorts, IsWellSorted, reads_in_sum, reads_in_items}
use Rattle.pc_sheet.specs.declared.formula.Formula.{the_lemmas}
use Rattle.pc_sheet.specs.declared.formula.Formula.TheVariants as formulas
use Rattle.pc_sheet.specs.declared.formula.Side.{Side}
use Rattle.pc_sheet.specs.declared.formula.Term.{Term}
use Rattle.pc_sheet.specs.declared.ids.SortId.{SortId}
use Rattle.pc_sheet.specs.declared.ids.TableId.{TableId}
use Rattle.pc_elaborate.specs.declared.fault.SortFault.{SortFault}
use Rattle.pc_elaborate.specs.declared.fault.SortFault.TheVariants.{WrongArity, WrongSort, Limit}
use Rattle.pc_sheet.specs.declared.limits.Limited.TheVariants.{Reads}
use Rattle.pc_elaborate.specs.declared.sides.Kind.{Kind}
use Rattle.pc_elaborate.specs.Outcome.{HasUniqueNames}
use Rattle.pc_elaborate.specs.inside.Scope.{IsScope}
use Rattle.pc_elaborate.specs.Elaboration.{IsTableNamed, IsStatement, is_comparison, is_table_atom}
use Rattle.pc_elaborate.specs.FormulaFaults.{IsNameFault, IsSomeTable, IsSideFault, IsComparisonFault, IsTableAtomFault, AreArgumentsFault}
use Rattle.pc_elaborate.specs.Told.{MayCompare, IsSideTold, AreArgumentsTold, IsFormulaTold}
use Rattle.pc_elaborate.proofs.Values.{some_at, get_below}
use Rattle.pc_elaborate.proofs.SideLaws.{arguments_pass}
use Rattle.pc_elaborate.proofs.SideTold.{comparable, may_compare}
use Rattle.pc_elaborate.proofs.ItemTold.{fault_from, fault_of, count_of_items}

pub statement_of-Compare : (l r : Side) (op : Op) → statement_of (formulas.Compare l op r) ≡ plain.compare (sum_of l) op (sum_of r)
statement_of-Compare l r op = search (rules, the_lemmas)

pub statement_of-InTable : (t : TableId) (v : Vec Term Global) → statement_of (formulas.InTable t v) ≡ plain.in_table t (views.items_of (map item_of v.items))
statement_of-InTable t v = search (rules, the_lemmas)

module _ (u : Universe) (vs : Variables) (left right : tree.Side) (op : Op) where
  pub left_fails : (e : SortFault) → IsSideTold u vs left (Err e) → IsFormulaTold u vs (tree.compare left op right) (Err e)
  left_fails e h = fault_from (IsSideFault u vs left) (IsComparisonFault u vs left op right) (λ f k. inl k) e h

  module _ (x : Side) (kind : Kind) (hx : IsSideTold u vs left (Ok (x, kind))) where
    pub right_fails : (e : SortFault) → IsSideTold u vs right (Err e) → IsFormulaTold u vs (tree.compare left op right) (Err e)
    right_fails e h = fault_from (IsSideFault u vs right) (IsComparisonFault u vs left op right) (λ f k. inr (hx.2, inl k)) e h

    module _ (y : Side) (other : Kind) (hy : IsSideTold u vs right (Ok (y, other))) where
      pub reads_fail : (16 < reads_in_sum (sum_of x) + reads_in_sum (sum_of y)) → IsFormulaTold u vs (tree.compare left op right) (Err (Limit Reads))
      reads_fail many = inr (hx.2, inr (hy.2, (sum_of x, sum_of y, hx.0, hy.0, inl ((λ few. omega (arith, few, many)), refl))))

      pub kinds_fail : reads_in_sum (sum_of x) + reads_in_sum (sum_of y) ≤ 16 → ¬ MayCompare kind op other → IsFormulaTold u vs (tree.compare left op right) (Err WrongSort)
      kinds_fail few differ = inr (hx.2, inr (hy.2, (sum_of x, sum_of y, hx.0, hy.0, inr (few, inl ((λ c. differ (may_compare u vs (sum_of x) (sum_of y) op kind other hx.1 hy.1 c)), refl)))))

      pub comparison_told : reads_in_sum (sum_of x) + reads_in_sum (sum_of y) ≤ 16 → MayCompare kind op other → IsFormulaTold u vs (tree.compare left op right) (Ok (formulas.Compare x op y))
      comparison_told few may =
          let P : plain.Statement → Type 0 = λ s. IsStatement u vs (tree.compare left op right) s × IsWellSorted u vs s in
          subst P (sym (statement_of-Compare x y op)) (is_comparison vs left right op (sum_of x) (sum_of y) hx.0 hy.0, (comparable u vs (sum_of x) (sum_of y) op kind other hx.1 hy.1 may, few))

-- ---- tables

pub table_below : (u : Universe) (n : List ℕ) (t : TableId) → IsTableNamed u n t → t.0 < length u.tables
table_below u n t h = let found = some_at (slice_get u.tables t.0) (λ (d : Table). d.name ≡ n) h in get_below u u.tables t.0 found.0 found.1

table_at : (u : Universe) (ts : List Table) (k : ℕ) (d : Table) → All (IsWellFormedTable u) ts → slice_get ts k ≡ Some d → IsWellFormedTable u d
table_at u [] k d h is = absurd (cc)
table_at u (t ∷ ts) zero d h is = let same : t ≡ d = cc in subst (IsWellFormedTable u) same (All-head (IsWellFormedTable u) t ts h)
table_at u (t ∷ ts) (suc k) d h is = table_at u ts k d (All-tail (IsWellFormedTable u) t ts h) is

pub table_sorts_declared : (u : Universe) → IsWellFormedUniverse u → (t : TableId) (ss : List SortId) → IsSomeAnd (slice_get u.tables t.0) (λ d. ss ≡ d.sorts) → All (IsDeclaredSort u) ss
table_sorts_declared u formed t ss h =
    let found = some_at (slice_get u.tables t.0) (λ (d : Table). ss ≡ d.sorts) h in
    subst (All (IsDeclaredSort u)) (sym found.2) (table_at u u.tables t.0 found.0 formed.tables found.1).sorts

module _ (u : Universe) (vs : Variables) (n : List ℕ) (items : List tree.Item) where
  pub name_fails : (e : SortFault) → IsNameFault u n (IsSomeTable u n) e → IsFormulaTold u vs (tree.in_table n items) (Err e)
  name_fails e h = fault_of (IsTableAtomFault u vs n (tree.items_of items)) e (inl h)

  module _ (t : TableId) (ss : List SortId) (is : IsTableNamed u n t) (has : IsSomeAnd (slice_get u.tables t.0) (λ d. d.sorts ≡ ss)) where
    pub arity_fails : (length items ≡ length ss → ⊥) → IsFormulaTold u vs (tree.in_table n items) (Err WrongArity)
    arity_fails differ = inr ((t, is), (t, ss, is, has, inl ((λ same. differ (sym (count_of_items items) ∙ same)), refl)))

    module _ (same : length items ≡ length ss) where
      pub arguments_fail : (e : SortFault) → AreArgumentsTold u vs ss (tree.items_of items) (Err e) → IsFormulaTold u vs (tree.in_table n items) (Err e)
      arguments_fail e h = fault_from (AreArgumentsFault u vs ss (tree.items_of items)) (IsTableAtomFault u vs n (tree.items_of items)) (λ f k. inr ((t, is), (t, ss, is, has, inr (count_of_items items ∙ same, inl k)))) e h

      module _ (unique : HasUniqueNames u) (scope : IsScope u vs) (v : Vec Term Global) (h : AreArgumentsTold u vs ss (tree.items_of items) (Ok v)) where
        pub table_reads_fail : 16 < reads_in_items (views.items_of (map item_of v.items)) → IsFormulaTold u vs (tree.in_table n items) (Err (Limit Reads))
        table_reads_fail many =
            inr (
              (t, is),
              (
                t,
                ss,
                is,
                has,
                inr (
                  count_of_items items ∙ same,
                  inr (
                    arguments_pass u unique vs scope (tree.items_of items) ss (views.items_of (map item_of v.items)) h.0 h.1,
                    (views.items_of (map item_of v.items), h.0, inl ((λ few. omega (arith, few, many)), refl)),
                  ),
                ),
              ),
            )

        pub table_told : reads_in_items (views.items_of (map item_of v.items)) ≤ 16 → IsFormulaTold u vs (tree.in_table n items) (Ok (formulas.InTable t v))
        table_told few =
            let P : plain.Statement → Type 0 = λ s. IsStatement u vs (tree.in_table n items) s × IsWellSorted u vs s in
            subst P (sym (statement_of-InTable t v)) (is_table_atom vs n items t ss (views.items_of (map item_of v.items)) is has h.0, (by (slice_get u.tables t.0) has, few))
          where
            by : (o : Option Table) → IsSomeAnd o (λ d. d.sorts ≡ ss) → IsSomeAnd o (λ d. AreOfSorts u vs (views.items_of (map item_of v.items)) d.sorts)
            by None k = k
            by (Some d) k = subst (AreOfSorts u vs (views.items_of (map item_of v.items))) (sym k) h.1
