use Rattle.std.proofs.Common.{◌≡◌, ◌+◌, ◌*◌, ◌≤◌, drop, sum}
use Rattle.pc_sheet.specs.Entailment.{cell_sizes}
use Rattle.pc_kept.proofs.components.count_of_pairs.Given as goal

abbrev pub invariant-loop-cell : goal.invariant-loop-cell
invariant-loop-cell l = record { so_far : l.count + sum (drop l.cell (cell_sizes l.book.universe)) ≡ sum (cell_sizes l.book.universe); few : l.count ≤ 256 * l.cell }
