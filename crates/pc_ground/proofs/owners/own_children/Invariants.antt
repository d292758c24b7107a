use Rattle.std.proofs.Common.{◌≡◌, ◌+◌, ◌++◌, map, drop}
use Rattle.pc_sheet.specs.Views.{statement_of, statements_of}
use Rattle.pc_ground.specs.ByNumber.{AreSorted}
use Rattle.pc_ground.specs.Owners.{piece_count_of_parts, spans_of_children}
use Rattle.pc_ground.proofs.owners.own_children.Given as goal

abbrev pub invariant-loop-part : goal.invariant-loop-part
invariant-loop-part l =
    let u = l.book.universe in
    let rest = statements_of (map statement_of (drop l.part-index l.parts)) in
    let all = statements_of (map statement_of l.parts) in
    record {
      owners : l.owners.items ++ spans_of_children u l.at rest ≡ l.fn.owners.items ++ spans_of_children u l.first all;
      at : l.at + piece_count_of_parts u rest ≡ l.first + piece_count_of_parts u all;
      sorted : AreSorted u rest;
    }
