-- What the line of a family declares.
use Rattle.std.proofs.Common.{◌≡◌, inl, inr, ℕ, zero, suc, ◌+◌, ◌<◌, ◌≤◌, List, [], ◌∷◌, ◌++◌, slice_get, length, map, All, arith, ap, ◌∙◌, sym, subst, refl, sum_by}
use Rattle.std.proofs.lemmas.List.Elements.{All-head, All-tail}
use Rattle.std.proofs.lemmas.List.Sums.{sum_by_push}
use Rattle.pc_name.specs.Names.{IsName}
use Rattle.pc_syntax.specs.Tree as tree
use Rattle.pc_sheet.specs.Sheet.{Sheet, Universe, Sort, Values, listed, range}
use Rattle.pc_sheet.specs.Sizes.{size_of, cells_in, count_of, values_of_sort, product}
use Rattle.pc_sheet.specs.Entailment.{cell_sizes}
use Rattle.pc_sheet.specs.WellFormed.{IsWellFormed, IsWellFormedUniverse, IsDeclaredSort, AreWellFormedValues}
use Rattle.pc_sheet.specs.declared.ids.SortId.{SortId}
use Rattle.pc_books.specs.Edits.{family_from, with_family}
use Rattle.pc_books.proofs.CountLemmas.{sizes_count}
use Rattle.pc_elaborate.specs.declared.fault.SortFault.{SortFault}
use Rattle.pc_elaborate.specs.declared.fault.SortFault.TheVariants.{Limit}
use Rattle.pc_sheet.specs.declared.limits.Limited.TheVariants.{Cells}
use Rattle.pc_elaborate.specs.Elaboration.{IsSortNamed}
use Rattle.pc_elaborate.specs.FormulaFaults.{IsSortNameFault}
use Rattle.pc_sortcheck.specs.Declaring.{Declares, AreSortsNamed}
use Rattle.pc_sortcheck.specs.DeclarationFaults.{IsDeclarationFault, HasRoomForCells}
use Rattle.pc_sortcheck.specs.inside.Fits.{FamilyFits}
use Rattle.pc_sortcheck.proofs.FoundSorts.{as_many_sorts, sorts_declared, sort_declared}
use Rattle.pc_sortcheck.proofs.WithFamily.{with_one_family}

-- ---- sizes

few_values : (sorts : List Sort) (k : ℕ) → All (λ (d : Sort). AreWellFormedValues d.values) sorts → k < length sorts → count_of (values_of_sort (slice_get sorts k)) ≤ 256
few_values [] k h l = absurd (omega arith)
few_values (d ∷ ds) zero h l = by d.values (All-head (λ (d : Sort). AreWellFormedValues d.values) d ds h)
  where
    by : (vs : Values) → AreWellFormedValues vs → count_of vs ≤ 256
    by (listed ns) k = k.1
    by (range low high) k = k.3
few_values (d ∷ ds) (suc k) h l = few_values ds k (All-tail (λ (d : Sort). AreWellFormedValues d.values) d ds h) (omega arith)

pub size_few : (u : Universe) → IsWellFormedUniverse u → (s : SortId) → IsDeclaredSort u s → size_of u s ≤ 256
size_few u h s l = few_values u.sorts s.0 h.sorts l

-- ---- cells

module _ (s : Sheet) (n : List ℕ) (ss : List SortId) (r : SortId) where
  all_cells : sum_by (cells_in s.universe) (s.universe.families ++ family_from n ss r ∷ []) ≡ length (cell_sizes s.universe) + product (map (size_of s.universe) ss)
  all_cells =
      let push = sum_by_push (cells_in s.universe) s.universe.families (family_from n ss r) in
      let count = sizes_count s.universe s.universe.families in
      push ∙ ap (λ k. k + product (map (size_of s.universe) ss)) (sym count)

  pub has_room : length (cell_sizes s.universe) + product (map (size_of s.universe) ss) ≤ 4096 → HasRoomForCells s n ss r
  has_room h = subst (λ k. k ≤ 4096) (sym all_cells) h

  pub room_left : HasRoomForCells s n ss r → length (cell_sizes s.universe) + product (map (size_of s.universe) ss) ≤ 4096
  room_left h = subst (λ k. k ≤ 4096) all_cells h

-- ---- a family

module _ (s : Sheet) (n : List ℕ) (names : List (List ℕ)) (t : List ℕ) (fits : FamilyFits s n names) where
  module _ (ss : List SortId) (named : AreSortsNamed s.universe names ss) where
    pub few_sorts : length ss ≤ 4
    few_sorts = omega (arith, as_many_sorts s.universe names ss named, fits.limit)

    pub all_declared : All (IsDeclaredSort s.universe) ss
    all_declared = sorts_declared s.universe names ss named

    pub result_at_fault : (e : SortFault) → IsSortNameFault s.universe t e → IsDeclarationFault s (tree.cell n names t) e
    result_at_fault e h = inr (fits.fresh, inr (fits.families, inr (fits.limit, inr ((ss, named), inl h))))

    module _ (r : SortId) (is : IsSortNamed s.universe t r) where
      pub no_cells : ¬ (length (cell_sizes s.universe) + product (map (size_of s.universe) ss) ≤ 4096) → IsDeclarationFault s (tree.cell n names t) (Limit Cells)
      no_cells full = inr (fits.fresh, inr (fits.families, inr (fits.limit, inr ((ss, named), inr ((r, is), (ss, r, named, is, inl ((λ room. full (room_left s n ss r room)), refl)))))))

      pub family_formed : (m : List ℕ) → m ≡ n → IsWellFormed s → s.rules ≡ [] → IsName n → length (cell_sizes s.universe) + product (map (size_of s.universe) ss) ≤ 4096 → IsWellFormed (with_family s (family_from m ss r))
      family_formed m p h none name room =
          let formed = with_one_family s n ss r h none name (record { fresh = fits.fresh; families = fits.families; limit = few_sorts; cells = has_room s n ss r room }) all_declared (sort_declared s.universe t r is) in
          subst IsWellFormed (sym (ap (λ (a : List ℕ). with_family s (family_from a ss r)) p)) formed

      pub family_declared : (new : Sheet) (m : List ℕ) → m ≡ n → new ≡ with_family s (family_from m ss r) → IsWellFormed (with_family s (family_from m ss r)) → Declares s (tree.cell n names t) new
      family_declared new m p e h = ((ss, r, named, is, e ∙ ap (λ (a : List ℕ). with_family s (family_from a ss r)) p), subst IsWellFormed (sym e) h)
