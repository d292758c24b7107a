use Rattle.std.proofs.Common.{◌≡◌, IfSome, map}
use Rattle.pc_writer.specs.Spelling.{cell_text}
use Rattle.pc_display.specs.Show.{cells_below}
use Rattle.pc_display.specs.Grid.{entry_column, widest}
use Rattle.pc_display.specs.inside.Names.{IsNamedSo}
use Rattle.pc_display.proofs.columns.widths_of.Given as goal

abbrev pub invariant-loop-number : goal.invariant-loop-number
invariant-loop-number l = record {
  cell : l.widths.cell ≡ widest (map (cell_text l.book.universe) (cells_below l.number));
  entry : l.widths.entry ≡ widest (map (entry_column l.book) (cells_below l.number));
  name : IfSome l.before (IsNamedSo l.book.universe);
}
