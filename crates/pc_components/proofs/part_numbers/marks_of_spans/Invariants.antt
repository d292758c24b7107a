use Rattle.std.proofs.Common.{◌≡◌, ◌++◌, drop, length, map}
use Rattle.pc_parts.specs.PartSheets.{is_among}
use Rattle.pc_components.specs.inside.Spans.{row_of, AreWithin}
use Rattle.pc_components.proofs.part_numbers.marks_of_spans.Given as goal

abbrev pub invariant-loop-span : goal.invariant-loop-span
invariant-loop-span l = record {
  marks : l.marks.items ++ map (λ s. is_among (row_of l.numbers s) l.number) (drop l.span-index l.spans) ≡ map (λ s. is_among (row_of l.numbers s) l.number) l.spans;
  within : AreWithin (length l.numbers) (drop l.span-index l.spans);
}
