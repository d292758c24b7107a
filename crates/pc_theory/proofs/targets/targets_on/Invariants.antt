use Rattle.std.proofs.Common.{◌≡◌, take}
use Rattle.pc_sheet.specs.Entailment.{cell_sizes}
use Rattle.pc_theory.specs.Targets.{targets_on}
use Rattle.pc_theory.proofs.targets.targets_on.Given as goal

abbrev pub invariant-loop-cell : goal.invariant-loop-cell
invariant-loop-cell l = l.targets.items ≡ targets_on (cell_sizes l.book.universe) (take l.cell-index l.cells)
