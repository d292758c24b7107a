use Rattle.std.proofs.Common.{◌≡◌, length, ap, ◌∙◌, arith}
use Rattle.pc_sheet.specs.Sheet.{Sheet}
use Rattle.pc_sheet.specs.Cells.{cells}
use Rattle.pc_sheet.specs.Entailment.{cell_sizes}
use Rattle.pc_sheet.proofs.CellsListed.{cells_are_numbered}
use Rattle.pc_spreadsheet.proofs.Summing.{entries_are}
use Rattle.pc_spreadsheet.proofs.summary.sum_up.Goals as goal

pub returns : goal.returns
returns c =
    let sheet = c.args.session.now.sheet in
    let sizes = c.cells.ensures.exact ∙ ap (λ (s : Sheet). length (cell_sizes s.universe)) c.book-book.ensures in
    let all : c.cells.result ≡ length (cells sheet.universe) = omega (arith, sizes, (cells_are_numbered sheet.universe).count) in
    record {
      cells_are = all;
      entries_are = ap length (entries_are sheet c.book-book.result.now c.entries.result.now c.entries.ensures.items c.book-book.ensures);
      conflicts_are = c.conflicts.ensures;
      implied_are = c.implied_pairs.ensures;
    }
