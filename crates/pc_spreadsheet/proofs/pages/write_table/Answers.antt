use Rattle.std.proofs.Common.{subst}
use Rattle.pc_sheet.specs.Sheet.{Sheet}
use Rattle.pc_display.specs.Grid.{IsGrid}
use Rattle.pc_spreadsheet.proofs.pages.write_table.Goals as goal

pub returns : goal.returns
returns g c =
    let shown = c.has_displays.ensures.grid in
    let is : IsGrid c.args.session.now.sheet shown.0 = subst (λ (s : Sheet). IsGrid s shown.0) c.book.ensures shown.1 in
    (shown.0, is, c.grid.ensures shown.0 is)
