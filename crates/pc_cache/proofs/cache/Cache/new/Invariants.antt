use Rattle.std.proofs.Common.{◌≡◌, ◌≤◌, ◌*◌, length, take}
use Rattle.pc_sheet.specs.Entailment.{cell_sizes}
use Rattle.pc_cache.specs.inside.Slots.{slots_of, starts_of}
use Rattle.pc_cache.proofs.cache.Cache.new.Given as goal

abbrev pub invariant-loop-cell : goal.invariant-loop-cell
invariant-loop-cell l = record {
  slots : l.slots.items ≡ slots_of 0 (take l.cell (cell_sizes l.book.universe));
  starts : l.starts.items ≡ starts_of 0 (take l.cell (cell_sizes l.book.universe));
  few : length l.slots.items ≤ 512 * l.cell;
}
