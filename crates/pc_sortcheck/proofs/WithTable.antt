-- A well-formed sheet with one more table.
use Rattle.std.proofs.Common.{◌≡◌, ℕ, ◌<◌, ◌≤◌, List, [], ◌∷◌, ◌++◌, map, length, All, Contains, arith, ap, ◌∙◌, sym, subst, refl, append_assoc}
use Rattle.std.specs.List.{flat_map}
use Rattle.std.proofs.lemmas.List.{length-append, map-append}
use Rattle.std.proofs.lemmas.List.Elements.{All-nil, All-cons, All-push, All-weaker}
use Rattle.std.proofs.lemmas.List.Sums.{sum_by_push}
use Rattle.pc_name.specs.Names.{IsName}
use Rattle.pc_sheet.specs.Sheet.{Sheet, Universe, Table, Family}
use Rattle.pc_sheet.specs.WellFormed.{AreDifferent, IsDeclaredSort, IsWellFormedTable, IsWellFormedFamily, IsWellFormedUniverse, IsWellFormed, rows_in}
use Rattle.pc_sheet.specs.WellSorted.{names_of_sort, name_of_table, name_of_family, declared_names}
use Rattle.pc_sheet.specs.declared.ids.SortId.{SortId}
use Rattle.pc_books.specs.Edits.{table_from, with_table}
use Rattle.pc_sortcheck.specs.DeclarationFaults.{IsNew}
use Rattle.pc_sortcheck.proofs.NewNames.{Names, inserted_different, inserted_fresh, inserted_all}
use Rattle.pc_sortcheck.proofs.WithSort.{last_of, no_rules}

-- the table fits behind those before it
pub record OneTableFits (u : Universe) (n : List ℕ) (ss : List SortId) : Type 0 where
  pub fresh : IsNew u n
  pub tables : length u.tables < 256
  pub some : 1 ≤ length ss
  pub limit : length ss ≤ 4

module _ (u : Universe) (n : List ℕ) (ss : List SortId) where
  abbrev more_tables : Universe
  more_tables = record u { tables = u.tables ++ table_from n ss ∷ [] }

  abbrev front : Names
  front = flat_map names_of_sort u.sorts ++ map name_of_table u.tables

  abbrev back : Names
  back = map name_of_family u.families

  old_names : front ++ back ≡ declared_names u
  old_names = append_assoc (flat_map names_of_sort u.sorts) (map name_of_table u.tables) back

  table_names : (front ++ n ∷ []) ++ back ≡ declared_names more_tables
  table_names =
      ap (λ ns. ns ++ back) (append_assoc (flat_map names_of_sort u.sorts) (map name_of_table u.tables) (n ∷ []))
      ∙ append_assoc (flat_map names_of_sort u.sorts) (map name_of_table u.tables ++ n ∷ []) back
      ∙ ap (λ ns. flat_map names_of_sort u.sorts ++ (ns ++ back)) (sym (map-append name_of_table u.tables (table_from n ss ∷ [])))

  table_stays : (t : Table) → IsWellFormedTable u t → IsWellFormedTable more_tables t
  table_stays t h = record { some_argument = h.some_argument; arity = h.arity; sorts = h.sorts; rows = h.rows; different = h.different }

  family_stays : (f : Family) → IsWellFormedFamily u f → IsWellFormedFamily more_tables f
  family_stays f h = record { arity = h.arity; sorts = h.sorts; result_sort = h.result_sort }

  universe_with_table : IsWellFormedUniverse u → IsName n → OneTableFits u n ss → All (IsDeclaredSort u) ss → IsWellFormedUniverse more_tables
  universe_with_table h name fits sorts = record {
    named = subst (All IsName) table_names (inserted_all front (n ∷ []) back IsName (subst (All IsName) (sym old_names) h.named) (All-cons IsName n [] name (All-nil IsName)));
    different = subst AreDifferent table_names
        (inserted_different front (n ∷ []) back (subst AreDifferent (sym old_names) h.different) (λ i j d order l. absurd (omega arith))
        (All-cons (λ m. ¬ Contains (front ++ back) m) n [] (subst (λ ns. ¬ Contains ns n) (sym old_names) fits.fresh) (All-nil (λ m. ¬ Contains (front ++ back) m))));
    sort_limit = h.sort_limit;
    sorts = h.sorts;
    table_limit = omega (arith, length-append u.tables (table_from n ss ∷ []), fits.tables);
    tables = All-push (IsWellFormedTable more_tables) u.tables (table_from n ss) (All-weaker (IsWellFormedTable u) (IsWellFormedTable more_tables) table_stays u.tables h.tables)
        (record { some_argument = fits.some; arity = fits.limit; sorts = sorts; rows = λ i d l. absurd (omega arith); different = λ i j d order l. absurd (omega arith) });
    row_limit = omega (arith, sum_by_push rows_in u.tables (table_from n ss), h.row_limit);
    family_limit = h.family_limit;
    families = All-weaker (IsWellFormedFamily u) (IsWellFormedFamily more_tables) family_stays u.families h.families;
    cell_limit = h.cell_limit;
  }

module _ (s : Sheet) (n : List ℕ) (ss : List SortId) where
  pub with_one_table : IsWellFormed s → s.rules ≡ [] → IsName n → OneTableFits s.universe n ss → All (IsDeclaredSort s.universe) ss → IsWellFormed (with_table s (table_from n ss))
  with_one_table h none name fits sorts = record {
    universe = universe_with_table s.universe n ss h.universe name fits sorts;
    rules = no_rules (more_tables s.universe n ss) s.rules none;
    entries = record { each = h.entries.each; distinct = h.entries.distinct; few = h.entries.few };
  }

  pub table_needs : IsWellFormed (with_table s (table_from n ss)) → OneTableFits s.universe n ss
  table_needs h =
      let u = s.universe in
      let last = last_of (IsWellFormedTable (more_tables u n ss)) u.tables (table_from n ss) h.universe.tables in
      let fresh = inserted_fresh (front u n ss) (n ∷ []) (back u n ss) (subst AreDifferent (sym (table_names u n ss)) h.universe.different) n (0, omega arith, refl) in
      record {
        fresh = subst (λ ns. ¬ Contains ns n) (old_names u n ss) fresh;
        tables = omega (arith, length-append u.tables (table_from n ss ∷ []), h.universe.table_limit);
        some = last.some_argument;
        limit = last.arity;
      }
