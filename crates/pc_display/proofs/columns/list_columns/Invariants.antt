use Rattle.std.proofs.Common.{◌≡◌, ◌≤◌, ◌*◌, codes, take}
use Rattle.pc_writer.specs.Spelling.{application_of, joined, value_texts}
use Rattle.pc_display.specs.Grid.{columns}
use Rattle.pc_display.proofs.columns.list_columns.Given as goal

abbrev pub invariant-loop-i : goal.invariant-loop-i
invariant-loop-i l =
    let u = l.book.universe in
    (l.total ≡ columns (joined (codes ", ") (take l.i (value_texts u l.sorts (application_of u l.cell).arguments)))) × (l.total ≤ l.i * 8388610)
