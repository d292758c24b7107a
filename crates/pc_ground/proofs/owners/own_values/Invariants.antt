use Rattle.std.proofs.Common.{◌≡◌, ◌+◌, ◌*◌, ◌++◌, map}
use Rattle.pc_sheet.specs.Cells.{values_below}
use Rattle.pc_ground.specs.Owners.{span_at}
use Rattle.pc_ground.proofs.owners.own_values.Given as goal

abbrev pub invariant-values : goal.invariant-values
invariant-values l = record {
  owners : l.owners.items ≡ l.fn.owners.items ++ map (span_at l.first l.count) (values_below l.counter);
  at : l.at ≡ l.first + l.counter * l.count;
}
