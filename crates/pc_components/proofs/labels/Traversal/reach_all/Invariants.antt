use Rattle.std.proofs.Common.{◌≡◌, drop}
use Rattle.pc_components.specs.Traversal.{all_reached}
use Rattle.pc_components.proofs.labels.Traversal.reach_all.Given as goal

abbrev pub invariant-loop-cell : goal.invariant-loop-cell
invariant-loop-cell l = all_reached l.label (drop l.cell-index l.cells) l.self ≡ all_reached l.label l.cells l.fn.self
