-- Parts as they are listed.
use Rattle.std.proofs.Common.{◌≡◌, ℕ, ◌<◌, true, false, List, [], ◌∷◌, drop, length, get_or, map, All, AllPairs, Contains, Some, slice_get, arith, ap, refl, sym, ◌∙◌, subst}
use Rattle.std.specs.List.{AllZip}
use Rattle.std.specs.List.Sorted.{IsPermutation}
use Rattle.std.proofs.lemmas.Bool.{false≢true}
use Rattle.std.proofs.lemmas.List.Elements.{All-contains}
use Rattle.pc_sheet.specs.Sheet.{Sheet}
use Rattle.pc_sheet.specs.Entailment.{IsSublist}
use Rattle.pc_sheet.specs.MaximalSets.{ListsExactly, IsMaximalSet}
use Rattle.pc_sheet.specs.WellFormed.{IsEntryOf, IsWellFormed}
use Rattle.pc_sheet.specs.declared.ids.CellId.{CellId}
use Rattle.pc_sheet.specs.declared.ids.Entry.{Entry}
use Rattle.pc_laws.proofs.Contained.{filter_sub, sub_contained, sub_of_sub}
use Rattle.pc_lemmas.proofs.Elements.{all_from, contains_first, element_at, kept_is}
use Rattle.pc_parts.specs.Components.{parts_of}
use Rattle.pc_parts.specs.Parts.{Part, cell_count}
use Rattle.pc_parts.specs.PartSheets.{is_on, entries_on, sheet_of}
use Rattle.pc_parts.specs.Unions.{are_some, has_entries}
use Rattle.pc_parts.proofs.Found.{parts_are_found}
use Rattle.pc_parts.proofs.PartsCells.{parts_are_of_its_cells}
use Rattle.pc_theory.proofs.Lists.{at_contained, at_within, zip_at, zip_length}
use Rattle.pc_world_list.specs.Worlds.{set_of}
use Rattle.pc_world_list.specs.Choices.{cell_number, IsChosen}
use Rattle.pc_world_list.specs.Chosen.{chosen_parts}
use Rattle.pc_repairs.specs.Listed.{ComesFirst, IsListedPart, ListedPart}
use Rattle.pc_repairs.specs.Listings.{aged_set}
use Rattle.pc_repairs.specs.inside.Ages.{world_of}
use Rattle.pc_repairs.specs.inside.Joining.{IsPartSets}
use Rattle.pc_repairs.specs.declared.ordering.Aged.{Aged}
use Rattle.pc_repairs.specs.declared.part_sets.PartSets.{PartSets}
use Rattle.pc_repairs.proofs.Exact.{all_sublists, exact_moved}

-- ---- cells

none_on : (es : List Entry) → entries_on [] es ≡ []
none_on [] = refl
none_on (e ∷ es) = none_on es

has_cells : (cells : List ℕ) (es : List Entry) → are_some (entries_on cells es) ≡ true → 0 < length cells
has_cells [] es some = absurd (false≢true (ap are_some (sym (none_on es)) ∙ some))
has_cells (c ∷ cs) es some = omega arith

begins : (cells : List CellId) (d : CellId) → 0 < length cells → map cell_number cells ≡ (get_or cells 0 d).0 ∷ map cell_number (drop 1 cells)
begins [] d below = absurd (omega (arith, below))
begins (c ∷ cs) d below = refl

module _ (sheet : Sheet) (p : Part) (k : ℕ) (at : IsChosen sheet k p) where
  chosen_there : Contains (parts_of sheet) p × (has_entries sheet p ≡ true)
  chosen_there = kept_is (has_entries sheet) (parts_of sheet) p (at_contained (chosen_parts sheet) k p at)

  module _ (q : PartSets) (is : IsPartSets sheet p q) where
    pub some_cells : 0 < length q.cells.now
    some_cells = by q.cells.now (subst (λ ns. 0 < length ns) (sym is.cells_are) (has_cells p.cells sheet.entries chosen_there.1))
      where
        by : (cells : List CellId) → 0 < length (map cell_number cells) → 0 < length cells
        by [] below = absurd (omega (arith, below))
        by (c ∷ cs) below = omega arith

    pub sublists_of : All (λ w. IsSublist sheet.entries w.entries) q.sets.now
    sublists_of =
        all_from (λ w. IsSublist sheet.entries w.entries) q.sets.now
        (λ w has. sub_of_sub sheet.entries (sheet_of sheet p).entries w.entries (filter_sub (is_on p.cells) sheet.entries)
        (All-contains (λ v. IsSublist (sheet_of sheet p).entries v.entries) q.sets.now w (all_sublists (sheet_of sheet p) q.sets.now is.exact) has))

    same_sets : (aged : List Aged) → map set_of (map world_of aged) ≡ map aged_set aged
    same_sets [] = refl
    same_sets (a ∷ as_more) = ap (λ ss. aged_set a ∷ ss) (same_sets as_more)

    pub listed_part : (aged : List Aged) (d : CellId) → IsPermutation q.sets.now (map world_of aged) → AllPairs (ComesFirst sheet.entries) (map aged_set aged) → IsListedPart sheet p (record { cell = get_or q.cells.now 0 d; sets = map aged_set aged })
    listed_part aged d moved order = record {
      later = map cell_number (drop 1 q.cells.now);
      first = sym is.cells_are ∙ begins q.cells.now d some_cells;
      exact = subst (λ sets. ListsExactly (List Entry) (IsMaximalSet (sheet_of sheet p)) sets) (same_sets aged) (exact_moved (sheet_of sheet p) q.sets.now is.exact (map world_of aged) moved).sets;
      order = order;
    }

  -- ---- what is written of it

  module _ (formed : IsWellFormed sheet) (listed : ListedPart) (is : IsListedPart sheet p listed) where
    pub cell_within : listed.cell.0 < cell_count sheet.universe
    cell_within =
        parts_are_of_its_cells sheet (parts_of sheet) formed (parts_are_found sheet formed) p chosen_there.0 listed.cell.0
        (subst (λ ns. Contains ns listed.cell.0) (sym is.first) (contains_first listed.cell.0 is.later))

    pub entries_within : All (λ s. All (IsEntryOf sheet.universe) s) listed.sets
    entries_within =
        all_from (λ s. All (IsEntryOf sheet.universe) s) listed.sets
        (λ s has. all_from (IsEntryOf sheet.universe) s
        (λ e there. All-contains (IsEntryOf sheet.universe) sheet.entries e formed.entries.each (kept_is (is_on p.cells) sheet.entries e (sub_contained (sheet_of sheet p).entries s ((is.exact.exact s).0 has).among e there)).0))

-- ---- one of many

pub lent_at : (sheet : Sheet) (lent : List PartSets) → AllZip (IsPartSets sheet) (chosen_parts sheet) lent → (i : ℕ) (q : PartSets) → slice_get lent i ≡ Some q → (p : Part) × IsChosen sheet i p × IsPartSets sheet p q
lent_at sheet lent z i q at =
    let many = zip_length (IsPartSets sheet) (chosen_parts sheet) lent z in
    let p = element_at (chosen_parts sheet) i (omega (arith, many, at_within lent i q at)) in
    (p.0, p.1, zip_at (IsPartSets sheet) (chosen_parts sheet) lent i p.0 q z p.1 at)

pub listed_at : (sheet : Sheet) (listing : List ListedPart) → AllZip (IsListedPart sheet) (chosen_parts sheet) listing → (i : ℕ) (listed : ListedPart) → slice_get listing i ≡ Some listed → (p : Part) × (k : ℕ) × IsChosen sheet k p × IsListedPart sheet p listed
listed_at sheet listing z i listed at =
    let many = zip_length (IsListedPart sheet) (chosen_parts sheet) listing z in
    let p = element_at (chosen_parts sheet) i (omega (arith, many, at_within listing i listed at)) in
    (p.0, i, p.1, zip_at (IsListedPart sheet) (chosen_parts sheet) listing i p.0 listed z p.1 at)
