-- A well-formed sheet with one more row of a table.
use Rattle.std.proofs.Common.{◌≡◌, ◌⊎◌, inl, inr, ℕ, zero, suc, ◌+◌, ◌<◌, ◌≤◌, Bool, true, false, cond, List, [], ◌∷◌, ◌++◌, map, length, slice_get, IsSomeAnd, All, Contains, arith, ap, ◌∙◌, sym, subst, refl, sum_by}
use Rattle.std.specs.List.{flat_map, list_any}
use Rattle.std.proofs.lemmas.Bool.{false≢true}
use Rattle.std.proofs.lemmas.List.{length-append}
use Rattle.std.proofs.lemmas.List.Elements.{All-cons, All-head, All-tail, All-push, All-weaker}
use Rattle.std.proofs.lemmas.List.Sums.{sum_by-cons}
use Rattle.pc_name.specs.Names.{IsName}
use Rattle.pc_sheet.specs.Readings.{is_same_row}
use Rattle.pc_sheet.specs.Sheet.{Sheet, Universe, Table, Family}
use Rattle.pc_sheet.specs.Sizes.{size_of}
use Rattle.pc_sheet.specs.Entailment.{AreWithin}
use Rattle.pc_sheet.specs.WellFormed.{AreDifferent, IsWellFormedTable, IsWellFormedFamily, IsWellFormedUniverse, IsWellFormed, rows_in}
use Rattle.pc_sheet.specs.WellSorted.{names_of_sort, name_of_table, name_of_family, declared_names}
use Rattle.pc_sheet.specs.declared.ids.TableId.{TableId}
use Rattle.pc_sheet.specs.declared.ids.ValueId.{ValueId}
use Rattle.pc_books.specs.Edits.{rows_with, tables_with, with_row}
use Rattle.pc_books.proofs.RowLemmas.{rows_decide, different_push, new_row}
use Rattle.pc_sortcheck.specs.DeclarationFaults.{HasRoomForRow}
use Rattle.pc_sortcheck.proofs.WithSort.{no_rules}

-- the row stands in the table at that place
abbrev Stands : List Table → ℕ → List ValueId → Type 0
Stands ts k row = IsSomeAnd (slice_get ts k) (λ t. Contains t.rows row)

module _ (rows : List (List ValueId)) (row : List ValueId) where
  -- either the row stands and nothing is added, or it doesn't and it is added
  rows_cases : (Contains rows row × (rows_with rows row ≡ rows)) ⊎ ((¬ Contains rows row) × (list_any (λ r. is_same_row r row) rows ≡ false) × (rows_with rows row ≡ rows ++ row ∷ []))
  rows_cases = by (list_any (λ r. is_same_row r row) rows) refl
    where
      by : (b : Bool) → list_any (λ r. is_same_row r row) rows ≡ b → (Contains rows row × (rows_with rows row ≡ rows)) ⊎ ((¬ Contains rows row) × (list_any (λ r. is_same_row r row) rows ≡ false) × (rows_with rows row ≡ rows ++ row ∷ []))
      by true e = inl ((rows_decide rows row).0 e, ap (λ b. cond b rows (rows ++ row ∷ [])) e)
      by false e = inr (λ h. false≢true (sym e ∙ (rows_decide rows row).1 h), e, sym (new_row rows row e))

-- ---- one table

row_added : (u : Universe) (t : Table) (row : List ValueId) → IsWellFormedTable u t → AreWithin (map (size_of u) t.sorts) row → IsWellFormedTable u (record t { rows = rows_with t.rows row })
row_added u t row h within = elim (rows_cases t.rows row) [
  | inl a ↦ subst (λ rs. IsWellFormedTable u (record t { rows = rs })) (sym a.1) h
  | inr b ↦ subst (λ rs. IsWellFormedTable u (record t { rows = rs })) (sym b.2) (record {
    some_argument = h.some_argument;
    arity = h.arity;
    sorts = h.sorts;
    rows = All-push (AreWithin (map (size_of u) t.sorts)) t.rows row h.rows within;
    different = different_push t.rows row h.different b.1;
  })
]

-- ---- all tables

tables_fit : (u : Universe) (ts : List Table) (k : ℕ) (row : List ValueId) → All (IsWellFormedTable u) ts → IsSomeAnd (slice_get ts k) (λ t. AreWithin (map (size_of u) t.sorts) row) → All (IsWellFormedTable u) (tables_with ts k row)
tables_fit u [] k row h within = absurd within
tables_fit u (t ∷ ts) zero row h within = All-cons (IsWellFormedTable u) (record t { rows = rows_with t.rows row }) ts (row_added u t row (All-head (IsWellFormedTable u) t ts h) within) (All-tail (IsWellFormedTable u) t ts h)
tables_fit u (t ∷ ts) (suc k) row h within = All-cons (IsWellFormedTable u) t (tables_with ts k row) (All-head (IsWellFormedTable u) t ts h) (tables_fit u ts k row (All-tail (IsWellFormedTable u) t ts h) within)

same_names : (ts : List Table) (k : ℕ) (row : List ValueId) → map name_of_table (tables_with ts k row) ≡ map name_of_table ts
same_names [] k row = refl
same_names (t ∷ ts) zero row = refl
same_names (t ∷ ts) (suc k) row = ap (λ ns. t.name ∷ ns) (same_names ts k row)

same_length : (ts : List Table) (k : ℕ) (row : List ValueId) → length (tables_with ts k row) ≡ length ts
same_length [] k row = refl
same_length (t ∷ ts) zero row = omega arith
same_length (t ∷ ts) (suc k) row = let r = same_length ts k row in omega (arith, r)

-- how many rows there are then
abbrev Counts : List Table → ℕ → List ValueId → Type 0
Counts ts k row = (Stands ts k row × (sum_by rows_in (tables_with ts k row) ≡ sum_by rows_in ts)) ⊎ ((¬ Stands ts k row) × (sum_by rows_in (tables_with ts k row) ≡ sum_by rows_in ts + 1))

counts : (ts : List Table) (k : ℕ) (row : List ValueId) → k < length ts → Counts ts k row
counts [] k row l = absurd (omega arith)
counts (t ∷ ts) zero row l = elim (rows_cases t.rows row) [
  | inl a ↦ inl (a.0, (let e = ap length a.1 in let x = sum_by-cons rows_in (record t { rows = rows_with t.rows row }) ts in let y = sum_by-cons rows_in t ts in omega (arith, e, x, y)))
  | inr b ↦ inr (b.0, (let e = ap length b.2 in let f = length-append t.rows (row ∷ []) in let x = sum_by-cons rows_in (record t { rows = rows_with t.rows row }) ts in let y = sum_by-cons rows_in t ts in omega (arith, e, f, x, y)))
]
counts (t ∷ ts) (suc k) row l =
    let x = sum_by-cons rows_in t (tables_with ts k row) in
    let y = sum_by-cons rows_in t ts in
    elim (counts ts k row (omega arith)) [
      | inl a ↦ inl (a.0, omega (arith, a.1, x, y))
      | inr b ↦ inr (b.0, omega (arith, b.1, x, y))
    ]

-- ---- the sheet

module _ (s : Sheet) (t : TableId) (row : List ValueId) where
  abbrev more_rows : Universe
  more_rows = record s.universe { tables = tables_with s.universe.tables t.0 row }

  row_names : declared_names more_rows ≡ declared_names s.universe
  row_names = ap (λ ns. flat_map names_of_sort s.universe.sorts ++ (ns ++ map name_of_family s.universe.families)) (same_names s.universe.tables t.0 row)

  table_stays : (d : Table) → IsWellFormedTable s.universe d → IsWellFormedTable more_rows d
  table_stays d h = record { some_argument = h.some_argument; arity = h.arity; sorts = h.sorts; rows = h.rows; different = h.different }

  family_stays : (f : Family) → IsWellFormedFamily s.universe f → IsWellFormedFamily more_rows f
  family_stays f h = record { arity = h.arity; sorts = h.sorts; result_sort = h.result_sort }

  few_rows : sum_by rows_in s.universe.tables ≤ 20000 → t.0 < length s.universe.tables → HasRoomForRow s.universe t row → sum_by rows_in (tables_with s.universe.tables t.0 row) ≤ 20000
  few_rows few l room = elim (counts s.universe.tables t.0 row l) [
    | inl a ↦ omega (arith, a.1)
    | inr b ↦ elim room [ inl there ↦ absurd (b.0 there) | inr less ↦ omega (arith, b.1) ]
  ]

  universe_with_row : IsWellFormedUniverse s.universe → t.0 < length s.universe.tables → IsSomeAnd (slice_get s.universe.tables t.0) (λ d. AreWithin (map (size_of s.universe) d.sorts) row) → HasRoomForRow s.universe t row → IsWellFormedUniverse more_rows
  universe_with_row h l within room = record {
    named = subst (All IsName) (sym row_names) h.named;
    different = subst AreDifferent (sym row_names) h.different;
    sort_limit = h.sort_limit;
    sorts = h.sorts;
    table_limit = omega (arith, same_length s.universe.tables t.0 row, h.table_limit);
    tables = All-weaker (IsWellFormedTable s.universe) (IsWellFormedTable more_rows) table_stays (tables_with s.universe.tables t.0 row) (tables_fit s.universe s.universe.tables t.0 row h.tables within);
    row_limit = few_rows h.row_limit l room;
    family_limit = h.family_limit;
    families = All-weaker (IsWellFormedFamily s.universe) (IsWellFormedFamily more_rows) family_stays s.universe.families h.families;
    cell_limit = h.cell_limit;
  }

  pub with_one_row : IsWellFormed s → s.rules ≡ [] → t.0 < length s.universe.tables → IsSomeAnd (slice_get s.universe.tables t.0) (λ d. AreWithin (map (size_of s.universe) d.sorts) row) → HasRoomForRow s.universe t row → IsWellFormed (with_row s t row)
  with_one_row h none l within room = record {
    universe = universe_with_row h.universe l within room;
    rules = no_rules more_rows s.rules none;
    entries = record { each = h.entries.each; distinct = h.entries.distinct; few = h.entries.few };
  }

  pub row_needs : IsWellFormed (with_row s t row) → t.0 < length s.universe.tables → HasRoomForRow s.universe t row
  row_needs h l = elim (counts s.universe.tables t.0 row l) [
    | inl a ↦ inl a.0
    | inr b ↦ inr (omega (arith, b.1, h.universe.row_limit))
  ]
