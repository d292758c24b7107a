use Rattle.std.proofs.Common.{◌≡◌, ◌≤◌, ◌*◌, codes, take}
use Rattle.pc_writer.specs.Spelling.{joined}
use Rattle.pc_display.specs.Grid.{columns}
use Rattle.pc_display.specs.Show.{entered_texts}
use Rattle.pc_display.proofs.columns.values_columns.Given as goal

abbrev pub invariant-loop-i : goal.invariant-loop-i
invariant-loop-i l = (l.total ≡ columns (joined (codes ", ") (take l.i (entered_texts l.book.universe l.sort l.entries)))) × (l.total ≤ l.i * 8388610)
