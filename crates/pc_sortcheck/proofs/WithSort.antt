-- A well-formed sheet with one more sort.
use Rattle.std.proofs.Common.{◌≡◌, ℕ, zero, suc, ◌<◌, List, [], ◌∷◌, ◌++◌, slice_get, IsSomeAnd, map, length, get_or, All, arith, ap, ap₂, ◌∙◌, sym, subst, refl, sum_by, replicate}
use Rattle.std.specs.List.{flat_map}
use Rattle.std.proofs.lemmas.Grind.{flat_map-append}
use Rattle.std.proofs.lemmas.List.{length-append, append-nil}
use Rattle.std.proofs.lemmas.List.Elements.{All-nil, All-head, All-tail, All-push, All-weaker, Contains-get_or}
use Rattle.std.proofs.lemmas.List.Sums.{sum_by-cons}
use Rattle.pc_name.specs.Names.{IsName}
use Rattle.pc_sheet.specs.Sheet.{Sheet, Universe, Sort, Table, Family, NamedStatement}
use Rattle.pc_sheet.specs.Sizes.{size_of, cells_in, count_of, values_of_sort, product}
use Rattle.pc_sheet.specs.Entailment.{AreWithin, cell_sizes}
use Rattle.pc_sheet.specs.WellFormed.{AreDifferent, AreWellFormedValues, IsDeclaredSort, IsWellFormedTable, IsWellFormedFamily, IsWellFormedUniverse, IsWellFormedRule, AreWellFormedRules, IsEntryOf, IsWellFormed}
use Rattle.pc_sheet.specs.WellSorted.{names_of_sort, name_of_table, name_of_family, declared_names}
use Rattle.pc_sheet.specs.declared.ids.SortId.{SortId}
use Rattle.pc_sheet.specs.declared.ids.Entry.{Entry}
use Rattle.pc_books.specs.Edits.{with_sort}
use Rattle.pc_sortcheck.specs.DeclarationFaults.{IsNew}
use Rattle.pc_sortcheck.proofs.NewNames.{Names, inserted_different, inserted_fresh, inserted_alone, inserted_all}

-- ---- what a list has

module _ {X : Type 0} where
  some_front : (P : X → Type 0) (xs ys : List X) (i : ℕ) → IsSomeAnd (slice_get xs i) P → IsSomeAnd (slice_get (xs ++ ys) i) P
  some_front P [] ys i h = absurd h
  some_front P (x ∷ xs) ys zero h = h
  some_front P (x ∷ xs) ys (suc i) h = some_front P xs ys i h

  get_front : (xs ys : List X) (i : ℕ) → i < length xs → slice_get (xs ++ ys) i ≡ slice_get xs i
  get_front [] ys i l = absurd (omega arith)
  get_front (x ∷ xs) ys zero l = refl
  get_front (x ∷ xs) ys (suc i) l = get_front xs ys i (omega arith)

  pub last_of : (P : X → Type 0) (xs : List X) (x : X) → All P (xs ++ x ∷ []) → P x
  last_of P [] x h = All-head P x [] h
  last_of P (y ∷ ys) x h = last_of P ys x (All-tail P y (ys ++ x ∷ []) h)

pub entries_front : (u v : Universe) (more : List ℕ) (es : List Entry) → cell_sizes v ≡ cell_sizes u ++ more → All (IsEntryOf u) es → All (IsEntryOf v) es
entries_front u v more es same h =
    All-weaker (IsEntryOf u) (IsEntryOf v) (λ e is. subst (λ ns. IsSomeAnd (slice_get ns e.cell.0) (λ n. e.value.0 < n)) (sym same) (some_front (λ n. e.value.0 < n) (cell_sizes u) more e.cell.0 is)) es h

pub no_rules : (u : Universe) (rs : List NamedStatement) → rs ≡ [] → AreWellFormedRules u rs
no_rules u rs e = subst (AreWellFormedRules u) (sym e) (record { limit = omega arith; each = All-nil (IsWellFormedRule u); different = λ i j d order l. absurd (omega arith) })

-- ---- one more sort

abbrev more_sorts : Universe → Sort → Universe
more_sorts u s = record u { sorts = u.sorts ++ s ∷ [] }

-- the sort fits behind those before it
pub record SortFits (u : Universe) (sort : Sort) : Type 0 where
  pub sorts : length u.sorts < 256
  pub values : AreWellFormedValues sort.values
  pub different : AreDifferent (names_of_sort sort)
  pub fresh : All (IsNew u) (names_of_sort sort)

module _ (u : Universe) (sort : Sort) where
  abbrev others : Names
  others = map name_of_table u.tables ++ map name_of_family u.families

  sort_names : declared_names (more_sorts u sort) ≡ (flat_map names_of_sort u.sorts ++ names_of_sort sort) ++ others
  sort_names = ap (λ ns. ns ++ others) (flat_map-append names_of_sort u.sorts (sort ∷ []) ∙ ap (λ ns. flat_map names_of_sort u.sorts ++ ns) (append-nil (names_of_sort sort)))

  same_size : (s : SortId) → IsDeclaredSort u s → size_of (more_sorts u sort) s ≡ size_of u s
  same_size s l = ap (λ o. count_of (values_of_sort o)) (get_front u.sorts (sort ∷ []) s.0 l)

  same_sizes : (ss : List SortId) → All (IsDeclaredSort u) ss → map (size_of (more_sorts u sort)) ss ≡ map (size_of u) ss
  same_sizes [] h = refl
  same_sizes (s ∷ ss) h = ap₂ (λ (n : ℕ) (ns : List ℕ). n ∷ ns) (same_size s (All-head (IsDeclaredSort u) s ss h)) (same_sizes ss (All-tail (IsDeclaredSort u) s ss h))

  same_count : (f : Family) → IsWellFormedFamily u f → cells_in (more_sorts u sort) f ≡ cells_in u f
  same_count f k = ap product (same_sizes f.sorts k.sorts)

  same_counts : (fs : List Family) → All (IsWellFormedFamily u) fs → sum_by (cells_in (more_sorts u sort)) fs ≡ sum_by (cells_in u) fs
  same_counts [] h = refl
  same_counts (f ∷ fs) h =
      let here = same_count f (All-head (IsWellFormedFamily u) f fs h) in
      let rest = same_counts fs (All-tail (IsWellFormedFamily u) f fs h) in
      omega (arith, sum_by-cons (cells_in (more_sorts u sort)) f fs, sum_by-cons (cells_in u) f fs, here, rest)

  same_cells : (fs : List Family) → All (IsWellFormedFamily u) fs
      → flat_map (λ f. replicate (cells_in (more_sorts u sort) f) (size_of (more_sorts u sort) f.result_sort)) fs ≡ flat_map (λ f. replicate (cells_in u f) (size_of u f.result_sort)) fs
  same_cells [] h = refl
  same_cells (f ∷ fs) h =
      let k = All-head (IsWellFormedFamily u) f fs h in
      ap₂ (λ (a b : List ℕ). a ++ b) (ap₂ (λ (a b : ℕ). replicate a b) (same_count f k) (same_size f.result_sort k.result_sort)) (same_cells fs (All-tail (IsWellFormedFamily u) f fs h))

  longer : (s : SortId) → IsDeclaredSort u s → IsDeclaredSort (more_sorts u sort) s
  longer s l = omega (arith, length-append u.sorts (sort ∷ []))

  table_stays : (t : Table) → IsWellFormedTable u t → IsWellFormedTable (more_sorts u sort) t
  table_stays t h = record {
    some_argument = h.some_argument;
    arity = h.arity;
    sorts = All-weaker (IsDeclaredSort u) (IsDeclaredSort (more_sorts u sort)) longer t.sorts h.sorts;
    rows = subst (λ ns. All (AreWithin ns) t.rows) (sym (same_sizes t.sorts h.sorts)) h.rows;
    different = h.different;
  }

  family_stays : (f : Family) → IsWellFormedFamily u f → IsWellFormedFamily (more_sorts u sort) f
  family_stays f k = record { arity = k.arity; sorts = All-weaker (IsDeclaredSort u) (IsDeclaredSort (more_sorts u sort)) longer f.sorts k.sorts; result_sort = longer f.result_sort k.result_sort }

  universe_with_sort : IsWellFormedUniverse u → All IsName (names_of_sort sort) → SortFits u sort → IsWellFormedUniverse (more_sorts u sort)
  universe_with_sort h names fits = record {
    named = subst (All IsName) (sym sort_names) (inserted_all (flat_map names_of_sort u.sorts) (names_of_sort sort) others IsName h.named names);
    different = subst AreDifferent (sym sort_names) (inserted_different (flat_map names_of_sort u.sorts) (names_of_sort sort) others h.different fits.different fits.fresh);
    sort_limit = omega (arith, length-append u.sorts (sort ∷ []), fits.sorts);
    sorts = All-push (λ (s : Sort). AreWellFormedValues s.values) u.sorts sort h.sorts fits.values;
    table_limit = h.table_limit;
    tables = All-weaker (IsWellFormedTable u) (IsWellFormedTable (more_sorts u sort)) table_stays u.tables h.tables;
    row_limit = h.row_limit;
    family_limit = h.family_limit;
    families = All-weaker (IsWellFormedFamily u) (IsWellFormedFamily (more_sorts u sort)) family_stays u.families h.families;
    cell_limit = omega (arith, same_counts u.families h.families, h.cell_limit);
  }

module _ (s : Sheet) (sort : Sort) where
  pub with_one_sort : IsWellFormed s → s.rules ≡ [] → All IsName (names_of_sort sort) → SortFits s.universe sort → IsWellFormed (with_sort s sort)
  with_one_sort h none names fits = record {
    universe = universe_with_sort s.universe sort h.universe names fits;
    rules = no_rules (more_sorts s.universe sort) s.rules none;
    entries = record {
      each = entries_front s.universe (more_sorts s.universe sort) [] s.entries (same_cells s.universe sort s.universe.families h.universe.families ∙ sym (append-nil (cell_sizes s.universe))) h.entries.each;
      distinct = h.entries.distinct;
      few = h.entries.few;
    };
  }

  pub sort_needs : IsWellFormed (with_sort s sort) → SortFits s.universe sort
  sort_needs h =
      let u = s.universe in
      let front = flat_map names_of_sort u.sorts in
      let rest = others u sort in
      let different = subst AreDifferent (sort_names u sort) h.universe.different in
      let fresh = inserted_fresh front (names_of_sort sort) rest different in
      record {
        sorts = omega (arith, length-append u.sorts (sort ∷ []), h.universe.sort_limit);
        values = last_of (λ (d : Sort). AreWellFormedValues d.values) u.sorts sort h.universe.sorts;
        different = inserted_alone front (names_of_sort sort) rest different;
        fresh = λ k d l. fresh (get_or (names_of_sort sort) k d) (Contains-get_or (names_of_sort sort) k d l);
      }
