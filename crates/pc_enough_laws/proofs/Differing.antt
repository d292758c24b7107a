-- The parts of a sheet have different cells, different entries, and are different themselves.
use Rattle.std.proofs.Common.{◌≡◌, ◌≢◌, ℕ, zero, suc, ◌*◌, ◌≤◌, inl, inr, List, [], ◌∷◌, length, get_or, sum_by, All, Contains, Some, slice_get, arith, ap, refl, sym, ◌∙◌, subst}
use Rattle.std.specs.Prelude.{AllPairs, sum, slice_index_or}
use Rattle.std.specs.List.{flat_map}
use Rattle.std.proofs.lemmas.Bool.{cases_lt, cases_eq}
use Rattle.std.proofs.lemmas.Option.{get_or_from_slice_get}
use Rattle.std.proofs.lemmas.List.Concat.{length-flat_map}
use Rattle.std.proofs.lemmas.List.Elements.{All-contains, Contains-append_cases, Contains-get_or}
use Rattle.std.proofs.lemmas.List.Kept.{AllPairs-filter}
use Rattle.std.proofs.lemmas.List.Sums.{sum_by-cons, sum_by-append}
use Rattle.pc_sheet.specs.Sheet.{Sheet}
use Rattle.pc_sheet.specs.Entailment.{cell_sizes}
use Rattle.pc_sheet.specs.WellFormed.{IsWellFormed}
use Rattle.pc_sheet.specs.declared.ids.Entry.{Entry}
use Rattle.pc_lemmas.proofs.Elements.{contains_first, contains_later, all_from, there_flat, kept_is}
use Rattle.pc_laws.proofs.Counting.{pairs_append}
use Rattle.pc_laws.proofs.Different.{fewer}
use Rattle.pc_parts.specs.Pieces.{Piece}
use Rattle.pc_parts.specs.Parts.{Part, IsComponent, IsDivision, AreParts, part_without_cells}
use Rattle.pc_parts.specs.Components.{parts_of}
use Rattle.pc_parts.specs.PartSheets.{is_on, entries_on}
use Rattle.pc_parts.proofs.Dividing.{without_is, parts_are_a_division}
use Rattle.pc_parts.proofs.Found.{parts_are_found}
use Rattle.pc_parts.proofs.Joining.{among_contains}
use Rattle.pc_parts.proofs.PartsCells.{parts_are_of_its_cells}
use Rattle.pc_components.specs.View.{cells_of_part}
use Rattle.pc_theory.specs.Targets.{target_count}
use Rattle.pc_theory.proofs.Lists.{at_within}
use Rattle.pc_enough_laws.proofs.Summed.{itself, Fits, spread}

-- ---- lists of lists

first_pairs : {X : Type 0} (R : X → X → Type 0) (x : X) (xs : List X) → AllPairs R (x ∷ xs) → (y : X) → Contains xs y → R x y
first_pairs R x xs h y there = subst (R x) there.2 (h zero (suc there.0) y (omega arith) (omega (arith, there.1)))

rest_pairs : {X : Type 0} (R : X → X → Type 0) (x : X) (xs : List X) → AllPairs R (x ∷ xs) → AllPairs R xs
rest_pairs R x xs h i j d below within = h (suc i) (suc j) d (omega (arith, below)) (omega (arith, within))

module _ {X Y : Type 0} (f : X → List Y) where
  abbrev ShareNone : X → X → Type 0
  ShareNone x z = (y : Y) → Contains (f x) y → ¬ Contains (f z) y

  flat_differ : (xs : List X) → ((x : X) → Contains xs x → AllPairs (λ a b. a ≢ b) (f x)) → AllPairs ShareNone xs → AllPairs (λ a b. a ≢ b) (flat_map f xs)
  flat_differ [] h k = λ i j d below within. absurd (omega (arith, within))
  flat_differ (x ∷ xs) h k =
      pairs_append (λ a b. a ≢ b) (f x) (flat_map f xs) (h x (contains_first x xs)) (flat_differ xs (λ z c. h z (contains_later x xs z c)) (rest_pairs ShareNone x xs k))
      (all_from (λ a. All (λ b. a ≢ b) (flat_map f xs)) (f x) (λ a here. all_from (λ b. a ≢ b) (flat_map f xs) (λ b there is.
      let z = there_flat f xs b there in
      first_pairs ShareNone x xs k z.0 z.1 a here (subst (Contains (f z.0)) (sym is) z.2))))

  sum_flat : (g : Y → ℕ) (xs : List X) → sum_by g (flat_map f xs) ≡ sum_by (λ x. sum_by g (f x)) xs
  sum_flat g [] = refl
  sum_flat g (x ∷ xs) = omega (arith, sum_by-append g (f x) (flat_map f xs), sum_flat g xs, sum_by-cons (λ z. sum_by g (f z)) x xs)

-- ---- parts

one_alone : (ps : List Piece) → AllPairs (λ x y. x ≢ y) (part_without_cells ps)
one_alone [] = λ i j d below within. absurd (omega (arith, within))
one_alone (p ∷ ps) = λ i j d below within. absurd (omega (arith, below, within))

module _ (sheet : Sheet) (formed : IsWellFormed sheet) where
  found : AreParts sheet (parts_of sheet)
  found = parts_are_found sheet formed

  divides : IsDivision sheet (parts_of sheet)
  divides = parts_are_a_division sheet (parts_of sheet) formed found

  pub parts_differ : AllPairs (λ x y. x ≢ y) (parts_of sheet)
  parts_differ =
      let are = found in
      let cells : Part → List ℕ = λ p. p.cells in
      let components : AllPairs (λ x y. x ≢ y) are.components = λ i j d below within is.
      let k = All-contains (IsComponent sheet) are.components (get_or are.components i d) are.each (Contains-get_or are.components i d (omega (arith, below, within))) in
      let less = are.order i j d below within k.first k.first k.later k.later k.is (ap cells (sym is) ∙ k.is) in
      absurd (omega (arith, less)) in
      subst (AllPairs (λ x y. x ≢ y)) (sym are.are)
      (pairs_append (λ x y. x ≢ y) are.components (part_without_cells are.read_none) components (one_alone are.read_none)
      (all_from (λ x. All (λ y. x ≢ y) (part_without_cells are.read_none)) are.components (λ x here. all_from (λ y. x ≢ y) (part_without_cells are.read_none) (λ y there is.
      let k = All-contains (IsComponent sheet) are.components x are.each here in
      let none : k.first ∷ k.later ≡ [] = sym k.is ∙ ap cells is ∙ (without_is sheet are.read_none y there).0 in
      cc))))

  -- ---- cells

  cells_differ : (part : Part) → Contains (parts_of sheet) part → AllPairs (λ c d. c ≢ d) part.cells
  cells_differ part there =
      let are = found in
      elim (Contains-append_cases are.components (part_without_cells are.read_none) part (subst (λ ps. Contains ps part) are.are there)) [
        | inl component ↦ let k = All-contains (IsComponent sheet) are.components part are.each component in (λ i j d below within is. let less = k.order i j d below within in absurd (omega (arith, less, is)))
        | inr last ↦ subst (AllPairs (λ c d. c ≢ d)) (sym (without_is sheet are.read_none part last).0) (λ i j d below within. absurd (omega (arith, within)))
      ]

  targets_on_part : Part → ℕ
  targets_on_part p = target_count (cell_sizes sheet.universe) p.cells

  pub targets_within : sum_by (λ (p : Part). target_count (cell_sizes sheet.universe) p.cells) (parts_of sheet) ≤ 2 * sum (cell_sizes sheet.universe)
  targets_within =
      let sizes = cell_sizes sheet.universe in
      let parts = parts_of sheet in
      let size : ℕ → ℕ = λ c. slice_index_or sizes c 0 in
      let all = flat_map cells_of_part parts in
      let different : AllPairs (λ c d. c ≢ d) all = flat_differ cells_of_part parts cells_differ divides.apart in
      let fits : All (Fits itself size sizes) all = all_from (Fits itself size sizes) all (λ c there.
      let p = there_flat cells_of_part parts c there in
      (parts_are_of_its_cells sheet parts formed found p.0 p.1 c p.2, omega arith)) in
      let total : sum_by size all ≤ sum_by itself sizes = spread itself size all sizes different fits in
      let flat = sum_flat cells_of_part size parts in
      omega (arith, total, flat, doubled (λ (p : Part). sum_by size p.cells) parts)
    where
      doubled : (f : Part → ℕ) (ps : List Part) → sum_by (λ p. 2 * f p) ps ≡ 2 * sum_by f ps
      doubled f [] = omega arith
      doubled f (p ∷ ps) = omega (arith, sum_by-cons f p ps, sum_by-cons (λ q. 2 * f q) p ps, doubled f ps)

  -- ---- entries

  pub entries_within : sum_by (λ (p : Part). length (entries_on p.cells sheet.entries)) (parts_of sheet) ≤ length sheet.entries
  entries_within =
      let parts = parts_of sheet in
      let entries = sheet.entries in
      let on : Part → List Entry = λ p. entries_on p.cells entries in
      let differ : AllPairs (λ (e f : Entry). e ≢ f) entries = formed.entries.distinct in
      let share : AllPairs (ShareNone on) parts = λ i j d below within e here there.
      let x = get_or parts i d in
      let y = get_or parts j d in
      divides.apart i j d below within e.cell.0 (among_contains x.cells e.cell.0 (kept_is (is_on x.cells) entries e here).1) (among_contains y.cells e.cell.0 (kept_is (is_on y.cells) entries e there).1) in
      let different : AllPairs (λ e f. e ≢ f) (flat_map on parts) = flat_differ on parts (λ p c. AllPairs-filter (λ (e f : Entry). e ≢ f) (is_on p.cells) entries differ) share in
      let few = fewer (flat_map on parts) entries different (λ e there. let p = there_flat on parts e there in (kept_is (is_on p.0.cells) entries e p.2).0) in
      omega (arith, few, length-flat_map on parts)

  -- ---- numbers

  -- a cell's part has one number
  pub one_number : (i j : ℕ) (x y : Part) (c : ℕ) → slice_get (parts_of sheet) i ≡ Some x → slice_get (parts_of sheet) j ≡ Some y → Contains x.cells c → Contains y.cells c → i ≡ j
  one_number i j x y c at_i at_j here there =
      let all = parts_of sheet in
      let one = get_or_from_slice_get all i x x at_i in
      let two = get_or_from_slice_get all j y x at_j in
      let has_one : Contains (get_or all i x).cells c = subst (λ (p : Part). Contains p.cells c) (sym one) here in
      let has_two : Contains (get_or all j x).cells c = subst (λ (p : Part). Contains p.cells c) (sym two) there in
      elim (cases_eq i j) [
        | inl is ↦ is
        | inr other ↦ elim (cases_lt i j) [
          | inl below ↦ absurd (divides.apart i j x below (at_within all j y at_j) c has_one has_two)
          | inr above ↦ absurd (divides.apart j i x (omega (arith, other, above)) (at_within all i x at_i) c has_two has_one)
        ]
      ]
