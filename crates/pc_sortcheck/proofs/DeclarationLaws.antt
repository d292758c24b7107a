-- Each declaration has one outcome: the sheet that it makes, or its first fault.
use Rattle.std.proofs.Common.{◌≡◌, ℕ, ◌<◌, ◌≤◌, ℤ, List, [], ◌∷◌, slice_get, IsSomeAnd, length, map, Contains, arith, ap, ap₂, ◌∙◌, sym, subst, refl}
use Rattle.pc_syntax.specs.Tree as tree
use Rattle.pc_syntax.specs.Tree.{list_sort, range_sort, table, row, cell, rule, enter, also}
use Rattle.pc_sheet.specs.Sheet.{Sheet, Universe, Table, Statement, with_rule}
use Rattle.pc_sheet.specs.WellFormed.{IsWellFormed, rule_name}
use Rattle.pc_sheet.specs.declared.ids.CellId.{CellId}
use Rattle.pc_sheet.specs.declared.ids.Entry.{Entry}
use Rattle.pc_sheet.specs.declared.ids.SortId.{SortId}
use Rattle.pc_sheet.specs.declared.ids.TableId.{TableId}
use Rattle.pc_sheet.specs.declared.ids.ValueId.{ValueId}
use Rattle.pc_books.specs.Edits.{table_from, family_from, with_table, with_row, with_family, entered, also_entered}
use Rattle.pc_books.specs.declared.names.Named.TheVariants as named
use Rattle.pc_books.proofs.NamesLemmas.{name_is_declared}
use Rattle.pc_elaborate.specs.declared.fault.SortFault.{SortFault}
use Rattle.pc_elaborate.specs.declared.fault.SortFault.TheVariants.{DuplicateName, WrongArity, EmptySort, Limit}
use Rattle.pc_sheet.specs.declared.limits.Limited.TheVariants.{Sorts, Values, Number, Tables, Families, Arity, Cells, Rows, Rules, Entries}
use Rattle.pc_elaborate.specs.Elaboration.{IsSortNamed, IsTableNamed, StandsForValue, AreValuesOf, IsCell, IsEntryNamed}
use Rattle.pc_elaborate.specs.FormulaFaults.{IsSomeSort, IsSomeTable, IsNameFault, IsSortNameFault, AreValuesFault, IsSortedFormula, IsFormulaFault, IsCellFault, IsValueFault}
use Rattle.pc_elaborate.specs.Laws.{HaveOneOutcome}
use Rattle.pc_elaborate.specs.Outcome.{HasOneOutcome}
use Rattle.pc_elaborate.specs.Tests.{no_test, test}
use Rattle.pc_elaborate.proofs.Testing.{IsOne, IsNever, none_one, none_never, test_one, test_never, part_one, part_never}
use Rattle.pc_elaborate.proofs.Values.{both_at, name_fault_one, name_fault_never, as_many_values}
use Rattle.pc_sortcheck.specs.Declaring.{Declares, AreSortsNamed, IsTableWithSorts}
use Rattle.pc_sortcheck.specs.DeclarationFaults.{IsNew, AreNewValues, AreSortNamesFault, AreSomeSorts, HasRoomForRow, IsRowFault, HasRoomForCells, IsEntryFault, HasRoomForEntry, IsDeclarationFault}
use Rattle.pc_sortcheck.proofs.DeclaredSorts.{list_needs, range_needs}
use Rattle.pc_sortcheck.proofs.DeclaredTables.{named_table}
use Rattle.pc_sortcheck.proofs.FoundSorts.{as_many_sorts}
use Rattle.pc_sortcheck.proofs.WithTable.{table_needs}
use Rattle.pc_sortcheck.proofs.WithRow.{row_needs}
use Rattle.pc_sortcheck.proofs.WithFamily.{family_needs}
use Rattle.pc_sortcheck.proofs.WithRule.{rule_needs}
use Rattle.pc_sortcheck.proofs.WithEntry.{also_needs}

module _ (old : Sheet) (trees : HaveOneOutcome old.universe) where
  abbrev u : Universe
  u = old.universe

  -- ---- names

  sorts_one : (ns : List (List ℕ)) (ss ts : List SortId) → AreSortsNamed u ns ss → AreSortsNamed u ns ts → ss ≡ ts
  sorts_one [] [] [] h k = refl
  sorts_one [] [] (t ∷ ts) h k = absurd k
  sorts_one [] (s ∷ ss) ts h k = absurd h
  sorts_one (n ∷ ns) [] ts h k = absurd h
  sorts_one (n ∷ ns) (s ∷ ss) [] h k = absurd k
  sorts_one (n ∷ ns) (s ∷ ss) (t ∷ ts) h k = ap₂ (λ (a : SortId) (b : List SortId). a ∷ b) ((trees.sorts n).one s t h.0 k.0) (sorts_one ns ss ts h.1 k.1)

  sort_names_never : (ns : List (List ℕ)) (ss : List SortId) → AreSortsNamed u ns ss → IsNever (AreSortNamesFault u ns)
  sort_names_never [] ss h = none_never
  sort_names_never (n ∷ ns) [] h = absurd h
  sort_names_never (n ∷ ns) (s ∷ ss) h = part_never (IsSomeSort u n) (IsSortNameFault u n) (AreSortNamesFault u ns) ((trees.sorts n).never s h.0) (sort_names_never ns ss h.1)

  sort_names_same : (ns : List (List ℕ)) → IsOne (AreSortNamesFault u ns)
  sort_names_same [] = none_one
  sort_names_same (n ∷ ns) = part_one (IsSomeSort u n) (IsSortNameFault u n) (AreSortNamesFault u ns) (λ some. (trees.sorts n).never some.0 some.1) (trees.sorts n).same (sort_names_same ns)

  -- ---- sorts

  list_outcome : (n : List ℕ) (values : List (List ℕ)) → HasOneOutcome (Declares old (list_sort n values)) (IsDeclarationFault old (list_sort n values))
  list_outcome n values = record {
    one = λ x y h k. h.0 ∙ sym k.0;
    never = never;
    same = test_one (IsNew u n) DuplicateName _ (test_one (length u.sorts < 256) (Limit Sorts) _ (test_one (1 ≤ length values) EmptySort _ (test_one (length values ≤ 256) (Limit Values) _ (test_one (AreNewValues u n values) DuplicateName no_test none_one))));
  }
    where
      never : (new : Sheet) → Declares old (list_sort n values) new → IsNever (IsDeclarationFault old (list_sort n values))
      never new h =
          let fits = list_needs old n values (subst IsWellFormed h.0 h.1) in
          test_never (IsNew u n) DuplicateName _ fits.fresh
          (test_never (length u.sorts < 256) (Limit Sorts) _ fits.sorts
          (test_never (1 ≤ length values) EmptySort _ fits.some
          (test_never (length values ≤ 256) (Limit Values) _ fits.limit (test_never (AreNewValues u n values) DuplicateName no_test fits.names none_never))))

  range_outcome : (n : List ℕ) (low high : ℤ) → HasOneOutcome (Declares old (range_sort n low high)) (IsDeclarationFault old (range_sort n low high))
  range_outcome n low high = record {
    one = λ x y h k. h.0 ∙ sym k.0;
    never = never;
    same = test_one (IsNew u n) DuplicateName _ (test_one (length u.sorts < 256) (Limit Sorts) _ (test_one _ (Limit Number) _ (test_one _ EmptySort _ (test_one _ (Limit Values) no_test none_one))));
  }
    where
      never : (new : Sheet) → Declares old (range_sort n low high) new → IsNever (IsDeclarationFault old (range_sort n low high))
      never new h =
          let fits = range_needs old n low high (subst IsWellFormed h.0 h.1) in
          test_never (IsNew u n) DuplicateName _ fits.fresh
          (test_never (length u.sorts < 256) (Limit Sorts) _ fits.sorts
          (test_never _ (Limit Number) _ (fits.low_bound, fits.high_bound)
          (test_never _ EmptySort _ fits.some (test_never _ (Limit Values) no_test fits.limit none_never))))

  -- ---- tables and families

  table_outcome : (n : List ℕ) (sorts : List (List ℕ)) → HasOneOutcome (Declares old (table n sorts)) (IsDeclarationFault old (table n sorts))
  table_outcome n sorts = record {
    one = λ x y h k. let a = h.0 in let b = k.0 in a.2 ∙ ap (λ (ss : List SortId). with_table old (table_from n ss)) (sorts_one sorts a.0 b.0 a.1 b.1) ∙ sym b.2;
    never = never;
    same = test_one (IsNew u n) DuplicateName _ (test_one (length u.tables < 256) (Limit Tables) _ (test_one _ (Limit Arity) _ (sort_names_same sorts)));
  }
    where
      never : (new : Sheet) → Declares old (table n sorts) new → IsNever (IsDeclarationFault old (table n sorts))
      never new h =
          let a = h.0 in
          let fits = table_needs old n a.0 (subst IsWellFormed a.2 h.1) in
          let long = as_many_sorts u sorts a.0 a.1 in
          test_never (IsNew u n) DuplicateName _ fits.fresh
          (test_never (length u.tables < 256) (Limit Tables) _ fits.tables
          (test_never _ (Limit Arity) _ (omega (arith, long, fits.some), omega (arith, long, fits.limit)) (sort_names_never sorts a.0 a.1)))

  -- the test of the cells, the sorts being known
  abbrev CellsFault : List ℕ → List (List ℕ) → List ℕ → SortFault → Type 0
  CellsFault n sorts result e = (ss : List SortId) × (r : SortId) × AreSortsNamed u sorts ss × IsSortNamed u result r × test (HasRoomForCells old n ss r) (Limit Cells) no_test e

  cells_same : (n : List ℕ) (sorts : List (List ℕ)) (result : List ℕ) → IsOne (CellsFault n sorts result)
  cells_same n sorts result e f h k =
      let ss = sorts_one sorts k.0 h.0 k.2 h.2 in
      let r = (trees.sorts result).one k.1 h.1 k.3 h.3 in
      let other = subst (λ (t : SortId). test (HasRoomForCells old n h.0 t) (Limit Cells) no_test f) r (subst (λ (ts : List SortId). test (HasRoomForCells old n ts k.1) (Limit Cells) no_test f) ss k.4) in
      test_one (HasRoomForCells old n h.0 h.1) (Limit Cells) no_test none_one e f h.4 other

  cells_never : (n : List ℕ) (sorts : List (List ℕ)) (result : List ℕ) (ss : List SortId) (r : SortId) → AreSortsNamed u sorts ss → IsSortNamed u result r → HasRoomForCells old n ss r → IsNever (CellsFault n sorts result)
  cells_never n sorts result ss r named is room e h =
      let same = sorts_one sorts h.0 ss h.2 named in
      let r_same = (trees.sorts result).one h.1 r h.3 is in
      let here = subst (λ (t : SortId). test (HasRoomForCells old n ss t) (Limit Cells) no_test e) r_same (subst (λ (ts : List SortId). test (HasRoomForCells old n ts h.1) (Limit Cells) no_test e) same h.4) in
      test_never (HasRoomForCells old n ss r) (Limit Cells) no_test room none_never e here

  cell_outcome : (n : List ℕ) (sorts : List (List ℕ)) (result : List ℕ) → HasOneOutcome (Declares old (cell n sorts result)) (IsDeclarationFault old (cell n sorts result))
  cell_outcome n sorts result = record {
    one = one;
    never = never;
    same = test_one (IsNew u n) DuplicateName _ (test_one (length u.families < 256) (Limit Families) _ (test_one (length sorts ≤ 4) (Limit Arity) _
        (part_one (AreSomeSorts u sorts) (AreSortNamesFault u sorts) _ (λ some. sort_names_never sorts some.0 some.1) (sort_names_same sorts)
        (part_one (IsSomeSort u result) (IsSortNameFault u result) (CellsFault n sorts result) (λ some. (trees.sorts result).never some.0 some.1) (trees.sorts result).same (cells_same n sorts result)))));
  }
    where
      one : (x y : Sheet) → Declares old (cell n sorts result) x → Declares old (cell n sorts result) y → x ≡ y
      one x y h k =
          let a = h.0 in
          let b = k.0 in
          a.4 ∙ ap₂ (λ (ss : List SortId) (r : SortId). with_family old (family_from n ss r)) (sorts_one sorts a.0 b.0 a.2 b.2) ((trees.sorts result).one a.1 b.1 a.3 b.3) ∙ sym b.4

      never : (new : Sheet) → Declares old (cell n sorts result) new → IsNever (IsDeclarationFault old (cell n sorts result))
      never new h =
          let a = h.0 in
          let fits = family_needs old n a.0 a.1 (subst IsWellFormed a.4 h.1) in
          let long = as_many_sorts u sorts a.0 a.2 in
          test_never (IsNew u n) DuplicateName _ fits.fresh
          (test_never (length u.families < 256) (Limit Families) _ fits.families
          (test_never (length sorts ≤ 4) (Limit Arity) _ (omega (arith, long, fits.limit))
          (part_never (AreSomeSorts u sorts) (AreSortNamesFault u sorts) _ (sort_names_never sorts a.0 a.2)
          (part_never (IsSomeSort u result) (IsSortNameFault u result) (CellsFault n sorts result) ((trees.sorts result).never a.1 a.3) (cells_never n sorts result a.0 a.1 a.2 a.3 fits.cells)))))

  -- ---- rows

  tables_one : (n : List ℕ) (t v : TableId) → IsTableNamed u n t → IsTableNamed u n v → t ≡ v
  tables_one n t v h k = let e = trees.names n (named.Table t) (named.Table v) h k in cc

  arguments_one : (n : List ℕ) (t v : TableId) (ss ts : List SortId) → IsTableWithSorts u n t ss → IsTableWithSorts u n v ts → (t ≡ v) × (ss ≡ ts)
  arguments_one n t v ss ts h k =
      let same = tables_one n t v h.0 k.0 in
      (same, both_at (slice_get u.tables t.0) (λ (d : Table). d.sorts) ss ts h.1 (subst (λ (x : TableId). IsSomeAnd (slice_get u.tables x.0) (λ d. d.sorts ≡ ts)) (sym same) k.1))

  -- the test of the rows, the values being known
  abbrev RoomFault : List tree.Value → TableId → List SortId → SortFault → Type 0
  RoomFault values t ss e = (vs : List ValueId) × AreValuesOf u ss values vs × test (HasRoomForRow u t vs) (Limit Rows) no_test e

  room_same : (values : List tree.Value) (t : TableId) (ss : List SortId) → IsOne (RoomFault values t ss)
  room_same values t ss e f h k =
      let same = (trees.rows ss values).one k.0 h.0 k.1 h.1 in
      test_one (HasRoomForRow u t h.0) (Limit Rows) no_test none_one e f h.2 (subst (λ (vs : List ValueId). test (HasRoomForRow u t vs) (Limit Rows) no_test f) same k.2)

  room_never : (values : List tree.Value) (t : TableId) (ss : List SortId) (vs : List ValueId) → AreValuesOf u ss values vs → HasRoomForRow u t vs → IsNever (RoomFault values t ss)
  room_never values t ss vs are room e h =
      let same = (trees.rows ss values).one h.0 vs h.1 are in
      test_never (HasRoomForRow u t vs) (Limit Rows) no_test room none_never e (subst (λ (ws : List ValueId). test (HasRoomForRow u t ws) (Limit Rows) no_test e) same h.2)

  row_fault_same : (values : List tree.Value) (t : TableId) (ss : List SortId) → IsOne (IsRowFault u values t ss)
  row_fault_same values t ss =
      test_one (length values ≡ length ss) WrongArity _
      (part_one ((vs : List ValueId) × AreValuesOf u ss values vs) (AreValuesFault u ss values) (RoomFault values t ss) (λ some. (trees.rows ss values).never some.0 some.1) (trees.rows ss values).same (room_same values t ss))

  row_fault_never : (values : List tree.Value) (t : TableId) (ss : List SortId) (vs : List ValueId) → AreValuesOf u ss values vs → HasRoomForRow u t vs → IsNever (IsRowFault u values t ss)
  row_fault_never values t ss vs are room =
      test_never (length values ≡ length ss) WrongArity _ (as_many_values u ss values vs are)
      (part_never ((vs : List ValueId) × AreValuesOf u ss values vs) (AreValuesFault u ss values) (RoomFault values t ss) ((trees.rows ss values).never vs are) (room_never values t ss vs are room))

  abbrev BehindTable : List ℕ → List tree.Value → SortFault → Type 0
  BehindTable n values e = (t : TableId) × (ss : List SortId) × IsTableWithSorts u n t ss × IsRowFault u values t ss e

  behind_same : (n : List ℕ) (values : List tree.Value) → IsOne (BehindTable n values)
  behind_same n values e f h k =
      let same = arguments_one n k.0 h.0 k.1 h.1 k.2 h.2 in
      row_fault_same values h.0 h.1 e f h.3 (subst (λ (ss : List SortId). IsRowFault u values h.0 ss f) same.1 (subst (λ (t : TableId). IsRowFault u values t k.1 f) same.0 k.3))

  behind_never : (n : List ℕ) (values : List tree.Value) (t : TableId) (ss : List SortId) → IsTableWithSorts u n t ss → IsNever (IsRowFault u values t ss) → IsNever (BehindTable n values)
  behind_never n values t ss is never e h =
      let same = arguments_one n h.0 t h.1 ss h.2 is in
      never e (subst (λ (ts : List SortId). IsRowFault u values t ts e) same.1 (subst (λ (v : TableId). IsRowFault u values v h.1 e) same.0 h.3))

  table_name_never : (n : List ℕ) → IsSomeTable u n → IsNever (IsNameFault u n (IsSomeTable u n))
  table_name_never n some = name_fault_never u n (IsSomeTable u n) (name_is_declared u n (named.Table some.0) some.1) some

  row_outcome : (n : List ℕ) (values : List tree.Value) → HasOneOutcome (Declares old (row n values)) (IsDeclarationFault old (row n values))
  row_outcome n values = record {
    one = one;
    never = never;
    same = part_one (IsSomeTable u n) (IsNameFault u n (IsSomeTable u n)) (BehindTable n values) (table_name_never n) (name_fault_one u n (IsSomeTable u n)) (behind_same n values);
  }
    where
      one : (x y : Sheet) → Declares old (row n values) x → Declares old (row n values) y → x ≡ y
      one x y h k =
          let a = h.0 in
          let b = k.0 in
          let same = arguments_one n a.0 b.0 a.1 b.1 a.3 b.3 in
          let values_same = (trees.rows b.1 values).one a.2 b.2 (subst (λ (ss : List SortId). AreValuesOf u ss values a.2) same.1 a.4) b.4 in
          a.5 ∙ ap₂ (λ (t : TableId) (vs : List ValueId). with_row old t vs) same.0 values_same ∙ sym b.5

      never : (new : Sheet) → Declares old (row n values) new → IsNever (IsDeclarationFault old (row n values))
      never new h =
          let a = h.0 in
          let room = row_needs old a.0 a.2 (subst IsWellFormed a.5 h.1) (named_table u n a.0 a.3.0) in
          part_never (IsSomeTable u n) (IsNameFault u n (IsSomeTable u n)) (BehindTable n values) (table_name_never n (a.0, a.3.0))
          (behind_never n values a.0 a.1 a.3 (row_fault_never values a.0 a.1 a.2 a.4 room))

  -- ---- rules

  rule_outcome : (n : List ℕ) (f : tree.Formula) → HasOneOutcome (Declares old (rule n f)) (IsDeclarationFault old (rule n f))
  rule_outcome n f = record {
    one = one;
    never = never;
    same = part_one (IsSortedFormula u [] f) (IsFormulaFault u [] f) _ (λ some. (trees.formulas f).never some.0 (some.1, some.2)) (trees.formulas f).same
        (test_one (length old.rules < 1024) (Limit Rules) _ (test_one (¬ Contains (map rule_name old.rules) n) DuplicateName no_test none_one));
  }
    where
      one : (x y : Sheet) → Declares old (rule n f) x → Declares old (rule n f) y → x ≡ y
      one x y h k =
          let a = h.0 in
          let b = k.0 in
          let p = rule_needs old (record { name = n; states = a.0 }) (subst IsWellFormed a.2 h.1) in
          let q = rule_needs old (record { name = n; states = b.0 }) (subst IsWellFormed b.2 k.1) in
          let same = (trees.formulas f).one a.0 b.0 (a.1, p.sorted) (b.1, q.sorted) in
          a.2 ∙ ap (λ (s : Statement). with_rule old (record { name = n; states = s })) same ∙ sym b.2

      never : (new : Sheet) → Declares old (rule n f) new → IsNever (IsDeclarationFault old (rule n f))
      never new h =
          let a = h.0 in
          let p = rule_needs old (record { name = n; states = a.0 }) (subst IsWellFormed a.2 h.1) in
          part_never (IsSortedFormula u [] f) (IsFormulaFault u [] f) _ ((trees.formulas f).never a.0 (a.1, p.sorted))
          (test_never (length old.rules < 1024) (Limit Rules) _ p.few (test_never (¬ Contains (map rule_name old.rules) n) DuplicateName no_test p.fresh none_never))

  -- ---- entries

  abbrev ValueFault : tree.Cell → tree.Value → SortFault → Type 0
  ValueFault c v e = (k : CellId) × (s : SortId) × IsCell u c k s × IsValueFault u s v e

  cells_one : (c : tree.Cell) (k l : CellId) (s t : SortId) → IsCell u c k s → IsCell u c l t → (k ≡ l) × (s ≡ t)
  cells_one c k l s t h m = let e = (trees.cells c).one (k, s) (l, t) h m in (ap (λ p. p.0) e, ap (λ p. p.1) e)

  values_same : (c : tree.Cell) (v : tree.Value) → IsOne (ValueFault c v)
  values_same c v e f h k =
      let same = cells_one c k.0 h.0 k.1 h.1 k.2 h.2 in
      (trees.values h.1 v).same e f h.3 (subst (λ (s : SortId). IsValueFault u s v f) same.1 k.3)

  entries_one : (c : tree.Cell) (v : tree.Value) (e f : Entry) → IsEntryNamed u c v e → IsEntryNamed u c v f → e ≡ f
  entries_one c v e f a b =
      let same = cells_one c e.cell f.cell a.sort b.sort a.cell b.cell in
      let values = (trees.values b.sort v).one e.value f.value (subst (λ (s : SortId). StandsForValue u s v e.value) same.1 a.value) b.value in
      ap₂ (λ (p : CellId) (q : ValueId). let x : Entry = record { cell = p; value = q } in x) same.0 values

  entry_same : (c : tree.Cell) (v : tree.Value) → IsOne (IsEntryFault u c v)
  entry_same c v = part_one ((k : CellId) × (s : SortId) × IsCell u c k s) (IsCellFault u c) (ValueFault c v) (λ some. (trees.cells c).never (some.0, some.1) some.2) (trees.cells c).same (values_same c v)

  entry_never : (c : tree.Cell) (v : tree.Value) (e : Entry) → IsEntryNamed u c v e → IsNever (IsEntryFault u c v)
  entry_never c v e is =
      part_never ((k : CellId) × (s : SortId) × IsCell u c k s) (IsCellFault u c) (ValueFault c v) ((trees.cells c).never (e.cell, is.sort) is.cell)
      (λ f k. let same = cells_one c k.0 e.cell k.1 is.sort k.2 is.cell in (trees.values is.sort v).never e.value is.value f (subst (λ (s : SortId). IsValueFault u s v f) same.1 k.3))

  enter_outcome : (c : tree.Cell) (v : tree.Value) → HasOneOutcome (Declares old (enter c v)) (IsDeclarationFault old (enter c v))
  enter_outcome c v = record {
    one = λ x y h k. let a = h.0 in let b = k.0 in a.2 ∙ ap (entered old) (entries_one c v a.0 b.0 a.1 b.1) ∙ sym b.2;
    never = λ new h. let a = h.0 in entry_never c v a.0 a.1;
    same = entry_same c v;
  }

  -- the test of a cell's entries, the entry being known
  abbrev FurtherFault : tree.Cell → tree.Value → SortFault → Type 0
  FurtherFault c v f = (e : Entry) × IsEntryNamed u c v e × test (HasRoomForEntry old e) (Limit Entries) no_test f

  further_same : (c : tree.Cell) (v : tree.Value) → IsOne (FurtherFault c v)
  further_same c v e f h k =
      let same = entries_one c v k.0 h.0 k.1 h.1 in
      test_one (HasRoomForEntry old h.0) (Limit Entries) no_test none_one e f h.2 (subst (λ (x : Entry). test (HasRoomForEntry old x) (Limit Entries) no_test f) same k.2)

  further_never : (c : tree.Cell) (v : tree.Value) (x : Entry) → IsEntryNamed u c v x → HasRoomForEntry old x → IsNever (FurtherFault c v)
  further_never c v x is room e h =
      let same = entries_one c v h.0 x h.1 is in
      test_never (HasRoomForEntry old x) (Limit Entries) no_test room none_never e (subst (λ (y : Entry). test (HasRoomForEntry old y) (Limit Entries) no_test e) same h.2)

  also_outcome : (c : tree.Cell) (v : tree.Value) → HasOneOutcome (Declares old (also c v)) (IsDeclarationFault old (also c v))
  also_outcome c v = record {
    one = λ x y h k. let a = h.0 in let b = k.0 in a.2 ∙ ap (also_entered old) (entries_one c v a.0 b.0 a.1 b.1) ∙ sym b.2;
    never = never;
    same = part_one ((e : Entry) × IsEntryNamed u c v e) (IsEntryFault u c v) (FurtherFault c v) (λ some. entry_never c v some.0 some.1) (entry_same c v) (further_same c v);
  }
    where
      never : (new : Sheet) → Declares old (also c v) new → IsNever (IsDeclarationFault old (also c v))
      never new h =
          let a = h.0 in
          let room = also_needs old a.0 (subst IsWellFormed a.2 h.1) in
          part_never ((e : Entry) × IsEntryNamed u c v e) (IsEntryFault u c v) (FurtherFault c v) (entry_never c v a.0 a.1) (further_never c v a.0 a.1 room)

  -- ---- each

  pub declaration_outcome : (d : tree.Declared) → HasOneOutcome (Declares old d) (IsDeclarationFault old d)
  declaration_outcome (list_sort n values) = list_outcome n values
  declaration_outcome (range_sort n low high) = range_outcome n low high
  declaration_outcome (table n sorts) = table_outcome n sorts
  declaration_outcome (row n values) = row_outcome n values
  declaration_outcome (cell n sorts result) = cell_outcome n sorts result
  declaration_outcome (rule n f) = rule_outcome n f
  declaration_outcome (enter c v) = enter_outcome c v
  declaration_outcome (also c v) = also_outcome c v
