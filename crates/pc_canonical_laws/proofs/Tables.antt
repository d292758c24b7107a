-- A universe with the first sorts alone, or with all sorts, the first tables with their first rows and the first families, is well formed where the whole one is.
use Rattle.std.proofs.Common.{◌≡◌, ◌≢◌, ℕ, ◌+◌, ◌≤◌, List, [], ◌∷◌, ◌++◌, length, map, All, sum_by, arith, sym, subst, ap, ◌∙◌}
use Rattle.std.specs.List.{flat_map}
use Rattle.std.proofs.lemmas.Grind.{flat_map-append}
use Rattle.std.proofs.lemmas.List.{map-append, length-append}
use Rattle.std.proofs.lemmas.List.Elements.{All-nil, All-cons, All-head, All-tail}
use Rattle.std.proofs.lemmas.List.Sums.{sum_by-cons, sum_by-append}
use Rattle.pc_name.specs.Names.{IsName}
use Rattle.pc_sheet.specs.Sheet.{Universe, Sort, Table, Family}
use Rattle.pc_sheet.specs.Sizes.{size_of, cells_in}
use Rattle.pc_sheet.specs.Entailment.{AreWithin}
use Rattle.pc_sheet.specs.WellFormed.{AreWellFormedValues, IsDeclaredSort, IsWellFormedTable, IsWellFormedFamily, IsWellFormedUniverse, rows_in}
use Rattle.pc_sheet.specs.WellSorted.{names_of_sort, name_of_table, name_of_family, declared_names}
use Rattle.pc_sheet.specs.declared.ids.ValueId.{ValueId}
use Rattle.pc_canonical_laws.proofs.Sublists.{Keeps, keeps_this, keeps_nothing, keeps_all, keeps_append, kept_each, kept_pairs, front_kept}
use Rattle.pc_canonical_laws.proofs.Values.{with_parts}

-- ---- the first sorts alone

abbrev pub with_sorts : List Sort → Universe
with_sorts sorts = record { sorts = sorts; tables = []; families = [] }

module _ (u : Universe) (formed : IsWellFormedUniverse u) (before after : List Sort) (is : u.sorts ≡ before ++ after) where
  sort_names_kept : Keeps (List ℕ) (declared_names (with_sorts before)) (declared_names u)
  sort_names_kept =
      let names : List Sort → List (List ℕ) = flat_map names_of_sort in
      let others = map name_of_table u.tables ++ map name_of_family u.families in
      let split : names u.sorts ≡ names before ++ names after = ap names is ∙ flat_map-append names_of_sort before after in
      keeps_append (names before) (names u.sorts) [] others (front_kept (names u.sorts) (names before) (names after) split) (keeps_nothing others)

  pub sorts_formed : IsWellFormedUniverse (with_sorts before)
  sorts_formed =
      let many : length u.sorts ≡ length before + length after = ap length is ∙ length-append before after in
      record {
        named = kept_each IsName (declared_names (with_sorts before)) (declared_names u) sort_names_kept formed.named;
        different = kept_pairs (λ x y. x ≢ y) (declared_names (with_sorts before)) (declared_names u) sort_names_kept formed.different;
        sort_limit = omega (arith, many, formed.sort_limit);
        sorts = kept_each (λ s. AreWellFormedValues s.values) before u.sorts (front_kept u.sorts before after is) formed.sorts;
        table_limit = omega arith;
        tables = All-nil (IsWellFormedTable (with_sorts before));
        row_limit = omega arith;
        family_limit = omega arith;
        families = All-nil (IsWellFormedFamily (with_sorts before));
        cell_limit = omega arith;
      }

-- ---- all sorts, with the first tables and families

-- the same table with its first rows alone
pub record IsFrontOf (t w : Table) : Type 0 where
  pub name : t.name ≡ w.name
  pub sorts : t.sorts ≡ w.sorts
  pub more : List (List ValueId)
  pub rows : w.rows ≡ t.rows ++ more

-- the first tables, each with its first rows
abbrev pub AreFrontsOf : List Table → List Table → Type 0
AreFrontsOf [] ws = Unit {0}
AreFrontsOf (t ∷ ts) [] = ⊥
AreFrontsOf (t ∷ ts) (w ∷ ws) = IsFrontOf t w × AreFrontsOf ts ws

few_tables : (ts ws : List Table) → AreFrontsOf ts ws → length ts ≤ length ws
few_tables [] ws fronts = omega arith
few_tables (t ∷ ts) [] fronts = absurd fronts
few_tables (t ∷ ts) (w ∷ ws) fronts = let rest = few_tables ts ws fronts.1 in omega (arith, rest)

few_rows : (ts ws : List Table) → AreFrontsOf ts ws → sum_by rows_in ts ≤ sum_by rows_in ws
few_rows [] ws fronts = omega arith
few_rows (t ∷ ts) [] fronts = absurd fronts
few_rows (t ∷ ts) (w ∷ ws) fronts =
    let rest = few_rows ts ws fronts.1 in
    let here : length w.rows ≡ length t.rows + length fronts.0.more = ap length fronts.0.rows ∙ length-append t.rows fronts.0.more in
    omega (arith, rest, here, sum_by-cons rows_in t ts, sum_by-cons rows_in w ws)

table_names : (ts ws : List Table) → AreFrontsOf ts ws → Keeps (List ℕ) (map name_of_table ts) (map name_of_table ws)
table_names [] ws fronts = keeps_nothing (map name_of_table ws)
table_names (t ∷ ts) [] fronts = absurd fronts
table_names (t ∷ ts) (w ∷ ws) fronts =
    subst (λ n. Keeps (List ℕ) (n ∷ map name_of_table ts) (w.name ∷ map name_of_table ws)) (sym fronts.0.name)
    (keeps_this w.name (map name_of_table ts) (map name_of_table ws) (table_names ts ws fronts.1))

module _ (u : Universe) (ts : List Table) (fs : List Family) where
  front_formed : (t w : Table) → IsFrontOf t w → IsWellFormedTable u w → IsWellFormedTable (with_parts u ts fs) t
  front_formed t w front formed =
      let kept : Keeps (List ValueId) t.rows w.rows = front_kept w.rows t.rows front.more front.rows in
      record {
        some_argument = subst (λ ss. 1 ≤ length ss) (sym front.sorts) formed.some_argument;
        arity = subst (λ ss. length ss ≤ 4) (sym front.sorts) formed.arity;
        sorts = subst (All (IsDeclaredSort u)) (sym front.sorts) formed.sorts;
        rows = subst (λ ss. All (AreWithin (map (size_of u) ss)) t.rows) (sym front.sorts) (kept_each (AreWithin (map (size_of u) w.sorts)) t.rows w.rows kept formed.rows);
        different = kept_pairs (λ x y. x ≢ y) t.rows w.rows kept formed.different;
      }

  fronts_formed : (some all : List Table) → AreFrontsOf some all → All (IsWellFormedTable u) all → All (IsWellFormedTable (with_parts u ts fs)) some
  fronts_formed [] all fronts formed = All-nil (IsWellFormedTable (with_parts u ts fs))
  fronts_formed (t ∷ some) [] fronts formed = absurd fronts
  fronts_formed (t ∷ some) (w ∷ all) fronts formed =
      All-cons (IsWellFormedTable (with_parts u ts fs)) t some (front_formed t w fronts.0 (All-head (IsWellFormedTable u) w all formed)) (fronts_formed some all fronts.1 (All-tail (IsWellFormedTable u) w all formed))

  families_formed : (gs : List Family) → All (IsWellFormedFamily u) gs → All (IsWellFormedFamily (with_parts u ts fs)) gs
  families_formed [] formed = All-nil (IsWellFormedFamily (with_parts u ts fs))
  families_formed (g ∷ gs) formed =
      let here = All-head (IsWellFormedFamily u) g gs formed in
      All-cons (IsWellFormedFamily (with_parts u ts fs)) g gs (record { arity = here.arity; sorts = here.sorts; result_sort = here.result_sort }) (families_formed gs (All-tail (IsWellFormedFamily u) g gs formed))

  module _ (formed : IsWellFormedUniverse u) (more : List Family) (fronts : AreFrontsOf ts u.tables) (is : u.families ≡ fs ++ more) where
    names_kept : Keeps (List ℕ) (declared_names (with_parts u ts fs)) (declared_names u)
    names_kept =
        let sorts = flat_map names_of_sort u.sorts in
        let families : Keeps (List ℕ) (map name_of_family fs) (map name_of_family u.families) =
        front_kept (map name_of_family u.families) (map name_of_family fs) (map name_of_family more) (ap (map name_of_family) is ∙ map-append name_of_family fs more) in
        keeps_append sorts sorts (map name_of_table ts ++ map name_of_family fs) (map name_of_table u.tables ++ map name_of_family u.families) (keeps_all sorts)
        (keeps_append (map name_of_table ts) (map name_of_table u.tables) (map name_of_family fs) (map name_of_family u.families) (table_names ts u.tables fronts) families)

    few_cells : sum_by (cells_in u) fs ≤ 4096
    few_cells = omega (arith, ap (sum_by (cells_in u)) is, sum_by-append (cells_in u) fs more, formed.cell_limit)

    pub parts_formed : IsWellFormedUniverse (with_parts u ts fs)
    parts_formed =
        let many : length u.families ≡ length fs + length more = ap length is ∙ length-append fs more in
        let tables = few_tables ts u.tables fronts in
        let rows = few_rows ts u.tables fronts in
        record {
          named = kept_each IsName (declared_names (with_parts u ts fs)) (declared_names u) names_kept formed.named;
          different = kept_pairs (λ x y. x ≢ y) (declared_names (with_parts u ts fs)) (declared_names u) names_kept formed.different;
          sort_limit = formed.sort_limit;
          sorts = formed.sorts;
          table_limit = omega (arith, tables, formed.table_limit);
          tables = fronts_formed ts u.tables fronts formed.tables;
          row_limit = omega (arith, rows, formed.row_limit);
          family_limit = omega (arith, many, formed.family_limit);
          families = families_formed fs (kept_each (IsWellFormedFamily u) fs u.families (front_kept u.families fs more is) formed.families);
          cell_limit = few_cells;
        }
