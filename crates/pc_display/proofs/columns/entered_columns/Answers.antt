use Rattle.std.proofs.Common.{◌∙◌, ap, sym}
use Rattle.pc_writer.specs.Spelling.{sort_of}
use Rattle.pc_display.specs.Show.{entered_text}
use Rattle.pc_display.specs.Grid.{columns}
use Rattle.pc_display.proofs.LineLemmas.{entered_none, entered_some}
use Rattle.pc_display.proofs.Widths.{dash_columns}
use Rattle.pc_display.proofs.columns.entered_columns.Goals as goal

pub returns-then-is_empty : goal.returns-then-is_empty
returns-then-is_empty c =
    let u = c.args.book.now.universe in
    sym dash_columns ∙ ap columns (entered_none u (sort_of u c.args.cell) c.args.entries.now c.is_empty.result c.is_empty.ensures c.if-is_empty.true)

pub returns-else-is_empty : goal.returns-else-is_empty
returns-else-is_empty c =
    let u = c.args.book.now.universe in
    let es = c.args.entries.now in
    c.values_columns.ensures ∙ ap columns (entered_some u c.sort_of.result es c.is_empty.result c.is_empty.ensures c.if-is_empty.false ∙ ap (λ s. entered_text u s es) c.sort_of.ensures)
