-- The entries of one part, and the task of searching one whose rules are known.
use Rattle.std.specs.Prelude.{◌≡◌, ◌==◌, ◌*◌, ◌≤◌, ℕ, Bool, List, map, length, Some, slice_get, slice_index_or}
use Rattle.pc_sheet.specs.Sheet.{Sheet}
use Rattle.pc_sheet.specs.Entailment.{cell_sizes}
use Rattle.pc_sheet.specs.Limits.{most_cells, most_entries}
use Rattle.pc_sheet.specs.declared.ids.CellId.{CellId}
use Rattle.pc_sheet.specs.declared.ids.Entry.{Entry}
use Rattle.pc_sheet.specs.WellFormed.{IsWellFormed}
use Rattle.pc_parts.specs.Parts.{Part}
use Rattle.pc_parts.specs.PartSheets.{entries_on}
use Rattle.pc_components.specs.View.{Kept, number_of}
use Rattle.pc_search.specs.Tasks.{IsPartIn, IsListable}
use Rattle.pc_search.specs.declared.task.PartTask.{PartTask}
use Rattle.pc_theory.specs.Targets.{AreAsked}
use Rattle.pc_theory.specs.Theories.{rules_alone, with_ground, IsTheory, IsPartNumbered}
use Rattle.pc_theory.specs.declared.edits.PartTargets.{PartTargets}

-- where each cell has the number of its part: the part of the entry's cell has that number
abbrev pub has_number : List ℕ → ℕ → Entry → Bool
has_number numbers number e = slice_index_or numbers e.cell.0 0 == number

-- the sheet's entries on the cells of the part of that number, no more than a sheet may have
pub record AreEntriesOf (sheet : Sheet) (kept : Kept) (number : ℕ) (entries : List Entry) : Type 0 where
  pub on : (cells : List CellId) → slice_get kept.cells number ≡ Some cells → entries ≡ entries_on (map number_of cells) sheet.entries
  pub few : length entries ≤ most_entries * most_cells

-- the task of finding these targets, in the part with the axioms that searches take
pub record IsTaskOf (t : PartTargets) (task : PartTask) : Type 0 where
  pub book : task.book.now ≡ t.book.now
  pub targets : task.targets.now ≡ t.targets.now
  pub formed : IsWellFormed task.book.now
  pub known : IsTheory (rules_alone task.book.now) (with_ground task.ground.now t.theory.now)
  pub asked : AreAsked (cell_sizes task.book.now.universe) t.theory.now.components t.part task.targets.now
  pub cells : slice_get t.theory.now.searched.cells t.part ≡ Some task.part.cells.now
  pub axioms : slice_get t.theory.now.searched.axioms t.part ≡ Some task.part.axioms.now
  pub variables : slice_get t.theory.now.searched.variables t.part ≡ Some task.part.variables.now
  pub banned : task.part.banned.now ≡ t.theory.now.searched.banned
  pub part : (p : Part) → IsPartNumbered (rules_alone t.book.now) t.part p → IsPartIn task p
  pub listable : IsListable task
