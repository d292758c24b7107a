use Rattle.std.proofs.Common.{◌≡◌, ◌<◌, ℕ, List, Contains, get_or, slice_get, map}
use Rattle.pc_sheet.specs.Entailment.{AreWithin}
use Rattle.pc_sheet.specs.declared.ids.ValueId.{ValueId}
use Rattle.pc_sheet.specs.declared.ids.CellId.{CellId}
use Rattle.pc_components.specs.Used.{HasValues}
use Rattle.pc_components.specs.View.{number_of}
use Rattle.pc_parts.specs.Laws.{AgreeAt}
use Rattle.pc_solver.specs.Answers.{truth_in}
use Rattle.pc_theory.proofs.reading.read_values.Given as goal

abbrev pub invariant-loop-cell : goal.invariant-loop-cell
invariant-loop-cell l = record {
  within : AreWithin l.ground.sizes l.base;
  reads : (a : List ValueId) → AreWithin l.ground.sizes a → HasValues l.ground.sizes (map number_of l.cells) (truth_in l.solver.trues) a
      → (k : ℕ) (d : CellId) → k < l.cell-index → slice_get l.base (get_or l.cells k d).0 ≡ slice_get a (get_or l.cells k d).0;
  elsewhere : AgreeAt (λ c. ¬ Contains (map number_of l.cells) c) l.initial.base l.base;
}
