-- A well-formed sheet with one more family.
use Rattle.std.proofs.Common.{◌≡◌, ◌≢◌, ℕ, ◌<◌, ◌≤◌, List, [], ◌∷◌, ◌++◌, map, length, All, Contains, arith, ap, ◌∙◌, sym, subst, refl, append_assoc, replicate}
use Rattle.std.specs.List.{flat_map}
use Rattle.std.proofs.lemmas.Grind.{flat_map-append}
use Rattle.std.proofs.lemmas.List.{length-append, map-append}
use Rattle.std.proofs.lemmas.List.Elements.{All-push, All-weaker, Contains-get_or}
use Rattle.std.proofs.lemmas.List.Quantifiers.{all_pairs_push}
use Rattle.pc_name.specs.Names.{IsName}
use Rattle.pc_sheet.specs.Sheet.{Sheet, Universe, Table, Family}
use Rattle.pc_sheet.specs.Sizes.{size_of, cells_in}
use Rattle.pc_sheet.specs.WellFormed.{AreDifferent, IsDeclaredSort, IsWellFormedTable, IsWellFormedFamily, IsWellFormedUniverse, IsWellFormed}
use Rattle.pc_sheet.specs.WellSorted.{names_of_sort, name_of_table, name_of_family, declared_names}
use Rattle.pc_sheet.specs.declared.ids.SortId.{SortId}
use Rattle.pc_books.specs.Edits.{family_from, with_family}
use Rattle.pc_sortcheck.specs.DeclarationFaults.{IsNew, HasRoomForCells}
use Rattle.pc_sortcheck.proofs.NewNames.{pairs_cross}
use Rattle.pc_sortcheck.proofs.WithSort.{last_of, no_rules, entries_front}

-- the family fits behind those before it
pub record OneFamilyFits (s : Sheet) (n : List ℕ) (ss : List SortId) (r : SortId) : Type 0 where
  pub fresh : IsNew s.universe n
  pub families : length s.universe.families < 256
  pub limit : length ss ≤ 4
  pub cells : HasRoomForCells s n ss r

module _ (s : Sheet) (n : List ℕ) (ss : List SortId) (r : SortId) where
  abbrev family : Family
  family = family_from n ss r

  abbrev more_families : Universe
  more_families = record s.universe { families = s.universe.families ++ family ∷ [] }

  family_names : declared_names more_families ≡ declared_names s.universe ++ n ∷ []
  family_names =
      let sorts = flat_map names_of_sort s.universe.sorts in
      let tables = map name_of_table s.universe.tables in
      let families = map name_of_family s.universe.families in
      ap (λ ns. sorts ++ (tables ++ ns)) (map-append name_of_family s.universe.families (family ∷ []))
      ∙ ap (λ ns. sorts ++ ns) (sym (append_assoc tables families (n ∷ []))) ∙ sym (append_assoc sorts (tables ++ families) (n ∷ []))

  table_stays : (t : Table) → IsWellFormedTable s.universe t → IsWellFormedTable more_families t
  table_stays t h = record { some_argument = h.some_argument; arity = h.arity; sorts = h.sorts; rows = h.rows; different = h.different }

  family_stays : (f : Family) → IsWellFormedFamily s.universe f → IsWellFormedFamily more_families f
  family_stays f h = record { arity = h.arity; sorts = h.sorts; result_sort = h.result_sort }

  universe_with_family : IsWellFormedUniverse s.universe → IsName n → OneFamilyFits s n ss r → All (IsDeclaredSort s.universe) ss → IsDeclaredSort s.universe r → IsWellFormedUniverse more_families
  universe_with_family h name fits sorts result = record {
    named = subst (All IsName) (sym family_names) (All-push IsName (declared_names s.universe) n h.named name);
    different = subst AreDifferent (sym family_names) (all_pairs_push (λ x y. x ≢ y) (declared_names s.universe) n h.different (λ k d l same. fits.fresh (subst (Contains (declared_names s.universe)) same (Contains-get_or (declared_names s.universe) k d l))));
    sort_limit = h.sort_limit;
    sorts = h.sorts;
    table_limit = h.table_limit;
    tables = All-weaker (IsWellFormedTable s.universe) (IsWellFormedTable more_families) table_stays s.universe.tables h.tables;
    row_limit = h.row_limit;
    family_limit = omega (arith, length-append s.universe.families (family ∷ []), fits.families);
    families = All-push (IsWellFormedFamily more_families) s.universe.families family
        (All-weaker (IsWellFormedFamily s.universe) (IsWellFormedFamily more_families) family_stays s.universe.families h.families)
        (record { arity = fits.limit; sorts = sorts; result_sort = result });
    cell_limit = fits.cells;
  }

  pub with_one_family : IsWellFormed s → s.rules ≡ [] → IsName n → OneFamilyFits s n ss r → All (IsDeclaredSort s.universe) ss → IsDeclaredSort s.universe r → IsWellFormed (with_family s (family_from n ss r))
  with_one_family h none name fits sorts result = record {
    universe = universe_with_family h.universe name fits sorts result;
    rules = no_rules more_families s.rules none;
    entries = record {
      each = entries_front s.universe more_families (flat_map (λ f. replicate (cells_in more_families f) (size_of more_families f.result_sort)) (family ∷ [])) s.entries
          (flat_map-append (λ f. replicate (cells_in more_families f) (size_of more_families f.result_sort)) s.universe.families (family ∷ [])) h.entries.each;
      distinct = h.entries.distinct;
      few = h.entries.few;
    };
  }

  pub family_needs : IsWellFormed (with_family s (family_from n ss r)) → OneFamilyFits s n ss r
  family_needs h = record {
    fresh = λ k. pairs_cross (λ x y. x ≢ y) (declared_names s.universe) (n ∷ []) (subst AreDifferent family_names h.universe.different) n n k (0, omega arith, refl) refl;
    families = omega (arith, length-append s.universe.families (family ∷ []), h.universe.family_limit);
    limit = (last_of (IsWellFormedFamily more_families) s.universe.families family h.universe.families).arity;
    cells = h.universe.cell_limit;
  }
