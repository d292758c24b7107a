use Rattle.std.proofs.Common.{◌≡◌, ◌++◌, drop, length, map}
use Rattle.pc_components.specs.inside.Spans.{row_of, AreWithin}
use Rattle.pc_components.proofs.part_numbers.rows_of.Given as goal

abbrev pub invariant-loop-span : goal.invariant-loop-span
invariant-loop-span l = record {
  rows : l.rows ++ map (row_of l.numbers) (drop l.span-index l.spans) ≡ map (row_of l.numbers) l.spans;
  within : AreWithin (length l.numbers) (drop l.span-index l.spans);
}
