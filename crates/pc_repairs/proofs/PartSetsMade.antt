-- The maximal sets of a part, as they are lent.
use Rattle.std.proofs.Common.{◌≡◌, ℕ, List, map, Some, slice_get, sym, ◌∙◌, subst}
use Rattle.pc_sheet.specs.Sheet.{Sheet}
use Rattle.pc_sheet.specs.declared.ids.CellId.{CellId}
use Rattle.pc_lemmas.proofs.Options.{same_some}
use Rattle.pc_parts.specs.Parts.{Part}
use Rattle.pc_parts.specs.PartSheets.{sheet_of}
use Rattle.pc_world_list.specs.Worlds.{AreExact}
use Rattle.pc_world_list.specs.Choices.{AreCellsOf, AreSetsOf, IsChosen}
use Rattle.pc_repairs.specs.inside.Joining.{IsPartSets}
use Rattle.pc_repairs.specs.declared.part_sets.PartSets.{PartSets}

-- the chosen part that both are of
pub lent_part : (sheet : Sheet) (i : ℕ) (q : PartSets) → AreCellsOf sheet i q.cells.now → AreSetsOf sheet i q.sets.now → (p : Part) × IsChosen sheet i p × IsPartSets sheet p q
lent_part sheet i q cells sets = (
  cells.part,
  cells.is,
  record {
    cells_are = cells.cells_are;
    exact = subst (λ (p : Part). AreExact (sheet_of sheet p) q.sets.now) (same_some (sym sets.is ∙ cells.is)) sets.exact;
  },
)
