-- The parts of a sheet with what is kept of them.
use Rattle.std.proofs.Common.{◌≡◌, ℕ, ◌+◌, ◌<◌, ◌≤◌, inl, inr, List, [], ◌∷◌, map, filter, length, All, Contains, Some, slice_get, refl, ap, sym, ◌∙◌, subst, arith}
use Rattle.std.proofs.lemmas.List.Elements.{Contains-append_cases}
use Rattle.std.proofs.lemmas.List.{length-append, length-map}
use Rattle.std.proofs.lemmas.List.FromFn.{length-range_with_len}
use Rattle.pc_lemmas.proofs.Elements.{all_from, contains_cases, contains_mapped, contains_none, kept_is}
use Rattle.pc_lits.specs.declared.literal.Var.{Var}
use Rattle.pc_sheet.specs.Sheet.{Sheet}
use Rattle.pc_sheet.specs.Entailment.{cell_sizes}
use Rattle.pc_sheet.specs.MaximalSets.{AreRulesConsistent}
use Rattle.pc_sheet.specs.declared.ids.CellId.{CellId}
use Rattle.pc_sheet.specs.declared.ids.Entry.{Entry}
use Rattle.pc_ground.specs.Ground.{clauses}
use Rattle.pc_ground.specs.GroundView.{Grounded}
use Rattle.pc_parts.specs.Pieces.{Piece, pieces}
use Rattle.pc_parts.specs.Parts.{Part, cell_count, part_without_cells}
use Rattle.pc_parts.specs.PartSheets.{entries_on, sheet_of}
use Rattle.pc_parts.specs.Components.{labels_of, all_cells, is_labeled, are_no_cells, part_of_first, parts_of}
use Rattle.pc_parts.specs.Leaves.{cells_of}
use Rattle.pc_components.specs.PartAxioms.{AreVariablesOf}
use Rattle.pc_components.specs.View.{Kept, number_of, variable_number, cells_of_part}
use Rattle.pc_problem.specs.Laws.{problem_of, AreSearchedBy}
use Rattle.pc_kept.specs.Laws.{KeptPartsAreSearched}
use Rattle.pc_search.specs.Parts.{IsPartOf}
use Rattle.pc_theory.specs.Theories.{rules_alone, IsPartNumbered}
use Rattle.pc_theory.specs.inside.Tasks.{IsKeptOf, AreSearchedParts, IsReady, IsPartAt}
use Rattle.pc_theory.proofs.Lists.{at_contained, at_within, map_at, at_map, zip_at, few_filtered, in_range, place_of, zip_length}
use Rattle.pc_theory.proofs.OfRules.{axioms_here, variables_here, kept_here}

-- ---- the cells of parts

no_cells : (ps : List Piece) (part : Part) → Contains (part_without_cells ps) part → part.cells ≡ []
no_cells [] part h = absurd (contains_none part h)
no_cells (p ∷ ps) part h = elim (contains_cases (record { cells = []; pieces = p ∷ ps }) [] part h) [
  | inl is ↦ (let cells : Part → List ℕ = λ x. x.cells in sym (ap cells is))
  | inr none ↦ absurd (contains_none part none)
]

pub cells_within : (sheet : Sheet) (part : Part) → Contains (parts_of sheet) part → (c : ℕ) → Contains part.cells c → c < cell_count sheet.universe
cells_within sheet part has c on =
    let labels = labels_of sheet in
    let firsts = filter (λ d. is_labeled labels d d) (all_cells sheet.universe) in
    let last = part_without_cells (filter (λ p. are_no_cells (cells_of sheet.universe p)) (pieces sheet)) in
    elim (Contains-append_cases (map (part_of_first sheet labels) firsts) last part has) [
      | inl first ↦
          let f = contains_mapped (part_of_first sheet labels) firsts part first in
          let cells : Part → List ℕ = λ x. x.cells in
          let from = kept_is (is_labeled labels f.0) (all_cells sheet.universe) c (subst (λ cs. Contains cs c) (sym (ap cells f.2)) on) in
          omega (arith, in_range 0 (cell_count sheet.universe) c from.0)
      | inr none ↦ absurd (contains_none c (subst (λ cs. Contains cs c) (no_cells _ part none) on))
    ]

one_last : (ps : List Piece) → length (part_without_cells ps) ≤ 1
one_last [] = omega arith
one_last (p ∷ ps) = omega arith

pub few_parts : (sheet : Sheet) → length (parts_of sheet) ≤ cell_count sheet.universe + 1
few_parts sheet =
    let labels = labels_of sheet in
    let firsts = filter (λ d. is_labeled labels d d) (all_cells sheet.universe) in
    let last = part_without_cells (filter (λ p. are_no_cells (cells_of sheet.universe p)) (pieces sheet)) in
    omega (
      arith,
      length-append (map (part_of_first sheet labels) firsts) last,
      length-map firsts (part_of_first sheet labels),
      few_filtered (λ d. is_labeled labels d d) (all_cells sheet.universe),
      length-range_with_len 0 (cell_count sheet.universe),
      one_last (filter (λ p. are_no_cells (cells_of sheet.universe p)) (pieces sheet)),
    )

-- of one part there are no more cells than of the sheet
few_cells_of : (sheet : Sheet) (part : Part) → Contains (parts_of sheet) part → length part.cells ≤ cell_count sheet.universe
few_cells_of sheet part has =
    let labels = labels_of sheet in
    let firsts = filter (λ d. is_labeled labels d d) (all_cells sheet.universe) in
    let last = part_without_cells (filter (λ p. are_no_cells (cells_of sheet.universe p)) (pieces sheet)) in
    let cells : Part → List ℕ = λ x. x.cells in
    elim (Contains-append_cases (map (part_of_first sheet labels) firsts) last part has) [
      | inl first ↦
          let f = contains_mapped (part_of_first sheet labels) firsts part first in
          omega (arith, ap length (ap cells f.2), few_filtered (is_labeled labels f.0) (all_cells sheet.universe), length-range_with_len 0 (cell_count sheet.universe))
      | inr none ↦ omega (arith, ap length (no_cells _ part none))
    ]

-- ---- what is kept of them

module _ (sheet : Sheet) (kept : Kept) (are : AreSearchedParts (rules_alone sheet) kept) where
  pub as_many : length kept.cells ≡ length (parts_of (rules_alone sheet))
  as_many = omega (arith, ap length are.cells, length-map kept.cells (map number_of), length-map (parts_of (rules_alone sheet)) cells_of_part)

  pub as_many_axioms : length kept.axioms ≡ length kept.cells
  as_many_axioms = omega (arith, as_many, zip_length (IsKeptOf (rules_alone sheet) kept.banned) (parts_of (rules_alone sheet)) kept.axioms are.axioms)

  pub as_many_variables : length kept.variables ≡ length kept.cells
  as_many_variables = omega (arith, as_many_axioms, zip_length (λ us os. AreVariablesOf (clauses (rules_alone sheet)) us (map variable_number os)) kept.axioms kept.variables are.variables)

  pub few_kept : length kept.cells ≤ cell_count sheet.universe + 1
  few_kept = omega (arith, as_many, few_parts (rules_alone sheet))

  module _ (i : ℕ) (cells : List CellId) (at_cells : slice_get kept.cells i ≡ Some cells) where
    pub part_there : (part : Part) × IsPartNumbered (rules_alone sheet) i part × (part.cells ≡ map number_of cells)
    part_there = at_map cells_of_part (parts_of (rules_alone sheet)) i (map number_of cells) (ap (λ xs. slice_get xs i) (sym are.cells) ∙ map_at (map number_of) kept.cells i cells at_cells)

    pub part_is : (part : Part) → IsPartNumbered (rules_alone sheet) i part → part.cells ≡ map number_of cells
    part_is part numbered =
        let there = part_there in
        let same : Some there.0 ≡ Some part = sym there.1 ∙ numbered in
        subst (λ o. (p : Part) → o ≡ Some p → p.cells ≡ map number_of cells) (sym there.1)
        (λ p is. let P : Part → Type 0 = λ q. q.cells ≡ map number_of cells in subst P (let e : there.0 ≡ p = cc in e) there.2) part numbered

    pub cells_below : All (λ c. c.0 < length (cell_sizes sheet.universe)) cells
    cells_below =
        all_from (λ c. c.0 < length (cell_sizes sheet.universe)) cells (λ c has.
        let there = part_there in
        let p = place_of cells c has in
        let on : Contains there.0.cells c.0 = subst (λ ns. Contains ns c.0) (sym there.2) (at_contained (map number_of cells) p.0 c.0 (map_at number_of cells p.0 c p.1)) in
        cells_within (rules_alone sheet) there.0 (at_contained (parts_of (rules_alone sheet)) i there.0 there.1) c.0 on)

    pub few_here : length cells ≤ cell_count sheet.universe
    few_here =
        let there = part_there in
        omega (arith, few_cells_of (rules_alone sheet) there.0 (at_contained (parts_of (rules_alone sheet)) i there.0 there.1), ap length there.2, length-map cells number_of)

    pub part_at : (used : List ℕ) (own : List Var) → slice_get kept.axioms i ≡ Some used → slice_get kept.variables i ≡ Some own → (part : Part) × IsPartAt sheet kept i part cells used own
    part_at used own at_used at_own =
        let there = part_there in
        let part = there.0 in
        let row : IsKeptOf (rules_alone sheet) kept.banned part used = zip_at (IsKeptOf (rules_alone sheet) kept.banned) (parts_of (rules_alone sheet)) kept.axioms i part used are.axioms there.1 at_used in
        let has : Contains (parts_of (rules_alone sheet)) part = at_contained (parts_of (rules_alone sheet)) i part there.1 in (
          part,
          record {
            numbered = there.1;
            cells_at = at_cells;
            used_at = at_used;
            own_at = at_own;
            there = has;
            within = cells_within (rules_alone sheet) part has;
            cells_are = sym there.2;
            axioms_are = (row.0, axioms_here sheet part row.0 row.1, kept_here sheet kept.banned row.0 used row.2);
            variables_are = variables_here sheet used (map variable_number own)
                (zip_at (λ us os. AreVariablesOf (clauses (rules_alone sheet)) us (map variable_number os)) kept.axioms kept.variables i used own are.variables at_used at_own);
          },
        )

  -- the part of a cell
  pub part_with : (c : ℕ) (i : ℕ) → slice_get kept.numbers c ≡ Some i → c < cell_count sheet.universe → (part : Part) × IsPartNumbered (rules_alone sheet) i part × Contains part.cells c
  part_with c i at below =
      let there = are.numbers c below in
      let same : Some there.0 ≡ Some i = sym there.1 ∙ at in
      let is : there.0 ≡ i = cc in
      subst (λ k. (part : Part) × IsPartNumbered (rules_alone sheet) k part × Contains part.cells c) is there.2

  pub number_within : (i : ℕ) (part : Part) → IsPartNumbered (rules_alone sheet) i part → i < length kept.cells
  number_within i part numbered = omega (arith, as_many, at_within (parts_of (rules_alone sheet)) i part numbered)

-- ---- what a part is searched by

module _ (searched : KeptPartsAreSearched) (sheet : Sheet) (ground : Grounded) (kept : Kept) (ready : IsReady sheet ground kept) (i : ℕ) (part : Part) (cells : List CellId) (used : List ℕ) (own : List Var)
    (at : IsPartAt sheet kept i part cells used own) where
  pub searched_at : AreSearchedBy sheet (sheet_of sheet part) cells used own kept.banned
  searched_at = searched sheet ready.formed (parts_of sheet) ready.division part at.there at.within cells at.axioms_are.0 used own kept.banned at.cells_are at.axioms_are.1 at.axioms_are.2 at.variables_are

  pub is_part : (entries : List Entry) → entries ≡ entries_on (map number_of cells) sheet.entries → AreRulesConsistent sheet → IsPartOf sheet part cells entries (problem_of sheet used own kept.banned)
  is_part entries are consistent =
      subst (λ es. IsPartOf sheet part cells es (problem_of sheet used own kept.banned)) (sym are)
      (record {
        parts = parts_of sheet;
        division = ready.division;
        there = at.there;
        consistent = consistent;
        cells_are = at.cells_are;
        axioms_are = refl;
        own_are = (searched_at.problem ready.few).own_in;
        named = ready.named;
        searched = searched_at.searched;
      })
