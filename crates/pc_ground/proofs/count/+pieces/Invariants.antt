use Rattle.std.proofs.Common.{◌≡◌, ◌+◌, map, drop}
use Rattle.pc_sheet.specs.Views.{statement_of, statements_of}
use Rattle.pc_ground.specs.ByNumber.{AreSorted}
use Rattle.pc_ground.specs.Owners.{piece_count_of_parts}
use Rattle.pc_ground.proofs.count.+pieces.Given as goal

abbrev pub invariant-count_pieces_of_parts-loop-part : goal.invariant-count_pieces_of_parts-loop-part
invariant-count_pieces_of_parts-loop-part l = record {
  total : l.total + piece_count_of_parts l.book.universe (statements_of (map statement_of (drop l.part-index l.parts))) ≡ piece_count_of_parts l.book.universe (statements_of (map statement_of l.parts));
  sorted : AreSorted l.book.universe (statements_of (map statement_of (drop l.part-index l.parts)));
}
