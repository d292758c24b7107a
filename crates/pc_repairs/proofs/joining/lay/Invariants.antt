use Rattle.std.proofs.Common.{◌≡◌, drop, length}
use Rattle.pc_repairs.specs.inside.Joining.{laid_over}
use Rattle.pc_repairs.proofs.joining.lay.Given as goal

abbrev pub invariant-loop-cell : goal.invariant-loop-cell
invariant-loop-cell l = record {
  long : length l.values.items ≡ length l.own;
  laid : laid_over l.values.items (drop l.cell-index l.cells) l.own ≡ laid_over l.initial.values.items l.cells l.own;
}
