-- The declarations of a universe give it: sorts, tables, rows and families, one after another.
use Rattle.std.proofs.Common.{◌≡◌, ◌≢◌, ℕ, Bool, true, false, List, [], ◌∷◌, ◌++◌, length, map, All, slice_get, IsSomeAnd, refl, sym, subst, ap, ◌∙◌, append_assoc, append-nil, AllPairs}
use Rattle.std.specs.List.{flat_map, list_any}
use Rattle.std.proofs.lemmas.List.{map-append}
use Rattle.std.proofs.lemmas.List.Elements.{All-head, All-tail, All-contains}
use Rattle.pc_sheet.specs.Readings.{is_same_row}
use Rattle.pc_sheet.specs.Sheet.{Values, listed, range, Universe, Sort, Table, Family, Sheet, empty_sheet}
use Rattle.pc_sheet.specs.Sizes.{size_of}
use Rattle.pc_sheet.specs.Entailment.{AreWithin}
use Rattle.pc_sheet.specs.WellFormed.{IsDeclaredSort, IsWellFormedTable, IsWellFormedFamily, IsWellFormedUniverse, IsWellFormed}
use Rattle.pc_sheet.specs.declared.ids.SortId.{SortId}
use Rattle.pc_sheet.specs.declared.ids.TableId.{TableId}
use Rattle.pc_sheet.specs.declared.ids.ValueId.{ValueId}
use Rattle.pc_books.specs.Edits.{rows_with, tables_with, table_from}
use Rattle.pc_books.proofs.RowLemmas.{rows_decide, new_row}
use Rattle.pc_syntax.specs.Tree.{Declared}
use Rattle.pc_sortcheck.specs.Declaring.{Makes, Declares, DeclareAll, AreSortsNamed}
use Rattle.pc_writer.specs.FormulaText.{sort_name}
use Rattle.pc_canonical_laws.specs.Declarations.{values_declaration, sort_declaration, table_declaration, row_declaration, row_declarations, family_declaration, universe_declarations}
use Rattle.pc_canonical_laws.specs.Declared.{declared_in, universe_alone}
use Rattle.pc_canonical_laws.proofs.Chain.{DeclareEach, each_declared, blocks_declared, numbered_alike, one_after_another}
use Rattle.pc_canonical_laws.proofs.Sublists.{kept_here, pairs_before, one_more}
use Rattle.pc_canonical_laws.proofs.Rules.{alone_formed}
use Rattle.pc_canonical_laws.proofs.StandingTrees.{sort_stands}
use Rattle.pc_canonical_laws.proofs.Tables.{with_sorts, sorts_formed, IsFrontOf, AreFrontsOf, parts_formed}
use Rattle.pc_canonical_laws.proofs.Values.{with_parts, values_stand}

-- ---- sorts

sort_made : (before : List Sort) (name : List ℕ) (values : Values)
    → Makes (universe_alone (with_sorts before)) (values_declaration name values) (universe_alone (with_sorts (before ++ record { name = name; values = values } ∷ [])))
sort_made before name (listed names) = refl
sort_made before name (range low high) = refl

sorts_named : (u : Universe) (ts : List Table) (fs : List Family) (ss : List SortId) → All (IsDeclaredSort u) ss → AreSortsNamed (with_parts u ts fs) (map (sort_name u) ss) ss
sorts_named u ts fs [] each = tt
sorts_named u ts fs (s ∷ ss) each = (sort_stands u s (All-head (IsDeclaredSort u) s ss each), sorts_named u ts fs ss (All-tail (IsDeclaredSort u) s ss each))

-- ---- tables

abbrev bare : Table → Table
bare t = table_from t.name t.sorts

whole_front : (t : Table) → IsFrontOf t t
whole_front t = record { name = refl; sorts = refl; more = []; rows = sym (append-nil t.rows) }

bare_fronts : (ts ws : List Table) → AreFrontsOf (map bare ts) (ts ++ ws)
bare_fronts [] ws = tt
bare_fronts (t ∷ ts) ws = (record { name = refl; sorts = refl; more = t.rows; rows = refl }, bare_fronts ts ws)

all_bare : (ts : List Table) → AreFrontsOf (map bare ts) ts
all_bare [] = tt
all_bare (t ∷ ts) = (record { name = refl; sorts = refl; more = t.rows; rows = refl }, all_bare ts)

whole_fronts : (ts : List Table) → AreFrontsOf ts ts
whole_fronts [] = tt
whole_fronts (t ∷ ts) = (whole_front t, whole_fronts ts)

-- whole tables, then one with its first rows, then tables without rows
rows_front : (done : List Table) (t w : Table) (rest : List Table) → IsFrontOf t w → AreFrontsOf (done ++ t ∷ map bare rest) (done ++ w ∷ rest)
rows_front [] t w rest front = (front, all_bare rest)
rows_front (d ∷ done) t w rest front = (whole_front d, rows_front done t w rest front)

-- ---- rows

row_put : (done : List Table) (t : Table) (rest : List Table) (row : List ValueId) → tables_with (done ++ t ∷ rest) (length done) row ≡ done ++ record t { rows = rows_with t.rows row } ∷ rest
row_put [] t rest row = refl
row_put (d ∷ done) t rest row = ap (λ ts. d ∷ ts) (row_put done t rest row)

there : (done : List Table) (t : Table) (rest : List Table) (P : Table → Type 0) → P t → IsSomeAnd (slice_get (done ++ t ∷ rest) (length done)) P
there [] t rest P holds = holds
there (d ∷ done) t rest P holds = there done t rest P holds

not_there : (rows : List (List ValueId)) (row : List ValueId) → All (λ r. r ≢ row) rows → list_any (λ r. is_same_row r row) rows ≡ false
not_there rows row others = by (list_any (λ r. is_same_row r row) rows) refl
  where
    by : (b : Bool) → list_any (λ r. is_same_row r row) rows ≡ b → b ≡ false
    by true test = absurd (All-contains (λ r. r ≢ row) rows row others ((rows_decide rows row).0 test) refl)
    by false test = refl

module _ (u : Universe) (formed : IsWellFormedUniverse u) where
  -- ---- the steps

  sort_declared : (before : List Sort) (s : Sort) (after : List Sort) → u.sorts ≡ before ++ s ∷ after
      → Declares (universe_alone (with_sorts before)) (sort_declaration s) (universe_alone (with_sorts (before ++ s ∷ [])))
  sort_declared before s after is =
      (sort_made before s.name s.values, alone_formed (with_sorts (before ++ s ∷ [])) (sorts_formed u formed (before ++ s ∷ []) after (one_more u.sorts before s after is)))

  abbrev with_tables : List Table → Sheet
  with_tables ts = universe_alone (with_parts u ts [])

  tables_formed : (ts : List Table) → AreFrontsOf ts u.tables → IsWellFormed (with_tables ts)
  tables_formed ts fronts = alone_formed (with_parts u ts []) (parts_formed u ts [] formed u.families fronts refl)

  table_declared : (before : List Table) (t : Table) (after : List Table) → u.tables ≡ before ++ t ∷ after
      → Declares (with_tables (map bare before)) (table_declaration u t) (with_tables (map bare (before ++ t ∷ [])))
  table_declared before t after is = (
    (t.sorts, sorts_named u (map bare before) [] t.sorts (kept_here (IsWellFormedTable u) u.tables before t after is formed.tables).sorts, ap with_tables (map-append bare before (t ∷ []))),
    tables_formed (map bare (before ++ t ∷ [])) (subst (AreFrontsOf (map bare (before ++ t ∷ []))) (sym (one_more u.tables before t after is)) (bare_fronts (before ++ t ∷ []) after)),
  )

  module _ (done : List Table) (t : Table) (rest : List Table) (is : u.tables ≡ done ++ t ∷ rest) where
    abbrev with_rows : List (List ValueId) → Sheet
    with_rows rows = with_tables (done ++ record t { rows = rows } ∷ map bare rest)

    this_formed : IsWellFormedTable u t
    this_formed = kept_here (IsWellFormedTable u) u.tables done t rest is formed.tables

    row_made : (before : List (List ValueId)) (row : List ValueId) (after : List (List ValueId)) → t.rows ≡ before ++ row ∷ after → Makes (with_rows before) (row_declaration u t row) (with_rows (before ++ row ∷ []))
    row_made before row after these =
        let k : TableId = record { 0 = length done } in
        let here : Table = record t { rows = before } in
        let others = pairs_before (λ x y. x ≢ y) before row after (subst (AllPairs (λ x y. x ≢ y)) these this_formed.different) in
        let put : done ++ record t { rows = before ++ row ∷ [] } ∷ map bare rest ≡ tables_with (done ++ here ∷ map bare rest) (length done) row =
        ap (λ rows. done ++ record t { rows = rows } ∷ map bare rest) (new_row before row (not_there before row others)) ∙ sym (row_put done here (map bare rest) row) in (
          k,
          t.sorts,
          row,
          (there done here (map bare rest) (λ table. table.name ≡ t.name) refl, there done here (map bare rest) (λ table. table.sorts ≡ t.sorts) refl),
          values_stand u (done ++ here ∷ map bare rest) [] t.sorts row (kept_here (AreWithin (map (size_of u) t.sorts)) t.rows before row after these this_formed.rows),
          ap with_tables put,
        )

    rows_formed : (before after : List (List ValueId)) → t.rows ≡ before ++ after → IsWellFormed (with_rows before)
    rows_formed before after these =
        let here : Table = record t { rows = before } in
        tables_formed (done ++ here ∷ map bare rest)
        (subst (AreFrontsOf (done ++ here ∷ map bare rest)) (sym is) (rows_front done here t rest (record { name = refl; sorts = refl; more = after; rows = these })))

    row_declared : (before : List (List ValueId)) (row : List ValueId) (after : List (List ValueId)) → t.rows ≡ before ++ row ∷ after → Declares (with_rows before) (row_declaration u t row) (with_rows (before ++ row ∷ []))
    row_declared before row after these = (row_made before row after these, rows_formed (before ++ row ∷ []) after (one_more t.rows before row after these))

    rows_declared : DeclareEach (with_rows []) (row_declarations u t) (with_rows t.rows)
    rows_declared = each_declared t.rows (λ before after. with_rows before) (row_declaration u t) row_declared t.rows [] refl

  -- tables with all their rows, then tables without rows
  abbrev with_filled : List Table → List Table → Sheet
  with_filled done rest = with_tables (done ++ map bare rest)

  table_filled : (done : List Table) (t : Table) (rest : List Table) → u.tables ≡ done ++ t ∷ rest → DeclareEach (with_filled done (t ∷ rest)) (row_declarations u t) (with_filled (done ++ t ∷ []) rest)
  table_filled done t rest is = subst (λ ts. DeclareEach (with_filled done (t ∷ rest)) (row_declarations u t) (with_tables ts)) (sym (append_assoc done (t ∷ []) (map bare rest))) (rows_declared done t rest is)

  abbrev with_families : List Family → Sheet
  with_families fs = universe_alone (with_parts u u.tables fs)

  family_declared : (before : List Family) (f : Family) (after : List Family) → u.families ≡ before ++ f ∷ after → Declares (with_families before) (family_declaration u f) (with_families (before ++ f ∷ []))
  family_declared before f after is =
      let this = kept_here (IsWellFormedFamily u) u.families before f after is formed.families in (
        (f.sorts, f.result_sort, sorts_named u u.tables before f.sorts this.sorts, sort_stands u f.result_sort this.result_sort, refl),
        alone_formed (with_parts u u.tables (before ++ f ∷ [])) (parts_formed u u.tables (before ++ f ∷ []) formed after (whole_fronts u.tables) (one_more u.families before f after is)),
      )

  -- ---- the parts

  sorts_declared : DeclareEach empty_sheet (map sort_declaration u.sorts) (with_tables [])
  sorts_declared = each_declared u.sorts (λ before after. universe_alone (with_sorts before)) sort_declaration sort_declared u.sorts [] refl

  tables_declared : DeclareEach (with_tables []) (map (table_declaration u) u.tables) (with_tables (map bare u.tables))
  tables_declared = each_declared u.tables (λ before after. with_tables (map bare before)) (table_declaration u) table_declared u.tables [] refl

  tables_filled : DeclareEach (with_tables (map bare u.tables)) (flat_map (row_declarations u) u.tables) (with_tables u.tables)
  tables_filled =
      subst (λ ts. DeclareEach (with_tables (map bare u.tables)) (flat_map (row_declarations u) u.tables) (with_tables ts)) (append-nil u.tables)
      (blocks_declared u.tables with_filled (row_declarations u) table_filled u.tables [] refl)

  families_declared : DeclareEach (with_tables u.tables) (map (family_declaration u) u.families) (universe_alone u)
  families_declared = each_declared u.families (λ before after. with_families before) (family_declaration u) family_declared u.families [] refl

  pub universe_declared : DeclareEach empty_sheet (universe_declarations u) (universe_alone u)
  universe_declared =
      let tables = map (table_declaration u) u.tables in
      let rows = flat_map (row_declarations u) u.tables in
      let families = map (family_declaration u) u.families in
      one_after_another empty_sheet (with_tables []) (universe_alone u) (map sort_declaration u.sorts) (tables ++ (rows ++ families)) sorts_declared
      (one_after_another (with_tables []) (with_tables (map bare u.tables)) (universe_alone u) tables (rows ++ families) tables_declared
      (one_after_another (with_tables (map bare u.tables)) (with_tables u.tables) (universe_alone u) rows families tables_filled families_declared))

pub universe_given : (u : Universe) → IsWellFormedUniverse u → (ds : List (ℕ × Declared)) → map declared_in ds ≡ universe_declarations u → DeclareAll empty_sheet ds (universe_alone u)
universe_given u formed ds are = numbered_alike empty_sheet (universe_alone u) (universe_declarations u) ds are (universe_declared u formed)
