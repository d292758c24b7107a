use Rattle.std.proofs.Common.{◌≡◌}
use Rattle.pc_sheet.specs.Views.{item_of}
use Rattle.pc_sheet.specs.WellSorted.{reads_in}
use Rattle.pc_elaborate.proofs.ReadsTold.{reads_so_far}
use Rattle.pc_elaborate.proofs.reads.reads_in_side.Given as goal

abbrev pub invariant-loop-term : goal.invariant-loop-term
invariant-loop-term l = l.reads ≡ reads_so_far (reads_in (item_of l.side.first)) l.side.rest.items l.term-index
