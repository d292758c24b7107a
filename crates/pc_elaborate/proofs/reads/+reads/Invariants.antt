use Rattle.std.proofs.Common.{◌≡◌, map, take, min}
use Rattle.pc_sheet.specs.Views.{item_of, items_of}
use Rattle.pc_sheet.specs.WellSorted.{reads_in_items}
use Rattle.pc_elaborate.proofs.reads.+reads.Given as goal

abbrev pub invariant-reads_in_terms-loop-term : goal.invariant-reads_in_terms-loop-term
invariant-reads_in_terms-loop-term l = l.reads ≡ min (reads_in_items (items_of (map item_of (take l.term-index l.terms)))) 17
