-- What a book keeps when a sort or a family is added.
use Rattle.std.proofs.Common.{◌≡◌, ◌≢◌, ℕ, zero, suc, ◌+◌, ◌<◌, ◌≤◌, List, [], ◌∷◌, ◌++◌, Vec, Global, Some, slice_get, map, sum_by, length, All, take, drop, arith, subst, ap, ap₂, ◌*◌, ◌∙◌, sym, refl}
use Rattle.std.proofs.lemmas.List.{map-append, length_push, length-append, length-drop, length-map, length-take, get_or_append_left}
use Rattle.std.proofs.lemmas.List.Quantifiers.{all_pairs_remove}
use Rattle.std.specs.List.{remove}
use Rattle.std.proofs.lemmas.List.Elements.{All-append, All-drop, All-head, All-tail, All-take, All-contains, Contains-push}
use Rattle.std.proofs.lemmas.List.Sums.{sum_by_push}
use Rattle.std.proofs.lemmas.Option.{slice_get-get_or}
use Rattle.pc_sheet.specs.Sheet.{Sheet, Universe, Sort, Table, Family, NamedStatement}
use Rattle.pc_sheet.specs.Sizes.{values_of_sort, count_of, size_of, cells_in, product}
use Rattle.pc_sheet.specs.WellFormed.{AreDifferent, AreWellFormedRules, IsWellFormedRule, rule_name, IsWellFormed, IsWellFormedUniverse, IsWellFormedFamily, IsDeclaredSort}
use Rattle.pc_sheet.specs.declared.ids.SortId.{SortId}
use Rattle.pc_books.specs.Edits.{without_rule}
use Rattle.pc_books.specs.SchemeView.{universe_of, family_of, sort_of, table_of}
use Rattle.pc_books.specs.Sound.{AreCounted}
use Rattle.pc_books.specs.declared.scheme.FamilyDecl.{FamilyDecl}
use Rattle.pc_books.specs.declared.scheme.Scheme.{Scheme}
use Rattle.pc_books.specs.declared.scheme.SortDecl.{SortDecl}
use Rattle.pc_books.specs.declared.scheme.TableDecl.{TableDecl}
use Rattle.pc_books.proofs.NamesLemmas.{more_sorts, more_tables, more_families}

-- ---- one more sort

front_stays : {X : Type 0} (xs : List X) (x : X) (i : ℕ) → i < length xs → slice_get (xs ++ x ∷ []) i ≡ slice_get xs i
front_stays xs x i l =
    slice_get-get_or (xs ++ x ∷ []) i x (omega (arith, length_push xs x)) ∙ ap Some (get_or_append_left xs (x ∷ []) x i l) ∙ sym (slice_get-get_or xs i x l)

module _ (u : Universe) (sort : Sort) where
  size_stays : (s : SortId) → s.0 < length u.sorts → size_of (more_sorts u sort) s ≡ size_of u s
  size_stays s l = ap (λ o. count_of (values_of_sort o)) (front_stays u.sorts sort s.0 l)

  tuples_stay : (ss : List SortId) → All (IsDeclaredSort u) ss → product (map (size_of (more_sorts u sort)) ss) ≡ product (map (size_of u) ss)
  tuples_stay [] h = refl
  tuples_stay (s ∷ ss) h = ap₂ (λ a b. a * b) (size_stays s (All-head (IsDeclaredSort u) s ss h)) (tuples_stay ss (All-tail (IsDeclaredSort u) s ss h))

  pub counts_stay : (n : ℕ) (ds : List FamilyDecl) (total : ℕ) → All (IsWellFormedFamily u) (map family_of ds) → AreCounted u n ds total → AreCounted (more_sorts u sort) n ds total
  counts_stay n [] total h counted = counted
  counts_stay n (d ∷ ds) total h counted =
      let here = All-head (IsWellFormedFamily u) (family_of d) (map family_of ds) h in (
        counted.0,
        counted.1 ∙ sym (tuples_stay d.sorts.items here.sorts),
        counts_stay (n + d.cells) ds total (All-tail (IsWellFormedFamily u) (family_of d) (map family_of ds) h) counted.2,
      )

pub sort_added : (s : Scheme) (v : Vec SortDecl Global) (d : SortDecl) → v.items ≡ s.sorts.items ++ d ∷ [] → universe_of (record s { sorts = v }) ≡ more_sorts (universe_of s) (sort_of d)
sort_added s v d is = ap (λ ts. record (universe_of s) { sorts = ts }) (ap (map sort_of) is ∙ map-append sort_of s.sorts.items (d ∷ []))

-- ---- one more family

module _ (u : Universe) where
  pub counts_push : (n : ℕ) (ds : List FamilyDecl) (total : ℕ) (d : FamilyDecl) → AreCounted u n ds total → d.first ≡ total → d.cells ≡ cells_in u (family_of d) → AreCounted u n (ds ++ d ∷ []) (total + d.cells)
  counts_push n [] total d counted first cells = (first ∙ counted, cells, ap (λ k. k + d.cells) counted)
  counts_push n (e ∷ ds) total d counted first cells = (counted.0, counted.1, counts_push (n + e.cells) ds total d counted.2 first cells)

  -- families don't count in the sizes of sorts
  pub counts_same : (family : Family) (n : ℕ) (ds : List FamilyDecl) (total : ℕ) → AreCounted u n ds total → AreCounted (more_families u family) n ds total
  counts_same family n [] total counted = counted
  counts_same family n (d ∷ ds) total counted = (counted.0, counted.1, counts_same family (n + d.cells) ds total counted.2)

pub family_added : (s : Scheme) (v : Vec FamilyDecl Global) (d : FamilyDecl) (n : ℕ) → v.items ≡ s.families.items ++ d ∷ [] → universe_of (record s { families = v; cells = n }) ≡ more_families (universe_of s) (family_of d)
family_added s v d n is = ap (λ fs. record (universe_of s) { families = fs }) (ap (map family_of) is ∙ map-append family_of s.families.items (d ∷ []))

-- the last family of a well-formed universe is well formed
pub last_family : (u : Universe) (family : Family) → IsWellFormedUniverse (more_families u family) → IsWellFormedFamily (more_families u family) family
last_family u family h = All-contains (IsWellFormedFamily (more_families u family)) (u.families ++ family ∷ []) family h.families (Contains-push u.families family)

-- all cells together are few
pub few_together : (u : Universe) (family : Family) → IsWellFormedUniverse (more_families u family) → sum_by (cells_in u) u.families + cells_in u family ≤ 4096
few_together u family h = let push = sum_by_push (cells_in u) u.families family in omega (arith, push, h.cell_limit)

-- ---- one more table

pub counts_beside : (u : Universe) (table : Table) (n : ℕ) (ds : List FamilyDecl) (total : ℕ) → AreCounted u n ds total → AreCounted (more_tables u table) n ds total
counts_beside u table n [] total counted = counted
counts_beside u table n (d ∷ ds) total counted = (counted.0, counted.1, counts_beside u table (n + d.cells) ds total counted.2)

pub table_added : (s : Scheme) (v : Vec TableDecl Global) (d : TableDecl) → v.items ≡ s.tables.items ++ d ∷ [] → universe_of (record s { tables = v }) ≡ more_tables (universe_of s) (table_of d)
table_added s v d is = ap (λ ts. record (universe_of s) { tables = ts }) (ap (map table_of) is ∙ map-append table_of s.tables.items (d ∷ []))

-- ---- one rule less

pub map-remove : {X Y : Type 0} (f : X → Y) (xs : List X) (k : ℕ) → map f (remove xs k) ≡ remove (map f xs) k
map-remove f [] zero = refl
map-remove f [] (suc k) = refl
map-remove f (x ∷ xs) zero = refl
map-remove f (x ∷ xs) (suc k) = ap (λ t. f x ∷ t) (map-remove f xs k)

All-remove : {X : Type 0} (P : X → Type 0) (xs : List X) (k : ℕ) → All P xs → All P (remove xs k)
All-remove P xs k h = All-append P (take k xs) (drop (suc k) xs) (All-take P k xs h) (All-drop P (suc k) xs h)

rules_stay : (u : Universe) (rs : List NamedStatement) (k : ℕ) → k < length rs → AreWellFormedRules u rs → AreWellFormedRules u (remove rs k)
rules_stay u rs k l h =
    let names : map rule_name (remove rs k) ≡ remove (map rule_name rs) k = map-remove rule_name rs k in
    let inside : k < length (map rule_name rs) = omega (arith, length-map rs rule_name) in
    record {
      limit = omega (arith, h.limit, length-append (take k rs) (drop (suc k) rs), length-take k rs, length-drop (suc k) rs);
      each = All-remove (IsWellFormedRule u) rs k h.each;
      different = subst AreDifferent (sym names) (all_pairs_remove (λ x y. x ≢ y) (map rule_name rs) k inside h.different);
    }

-- without a rule a sheet stays well formed
pub sheet_stays : (sheet : Sheet) (k : ℕ) → k < length sheet.rules → IsWellFormed sheet → IsWellFormed (without_rule sheet k)
sheet_stays sheet k l h = record { universe = h.universe; rules = rules_stay sheet.universe sheet.rules k l h.rules; entries = h.entries }
