use Rattle.std.proofs.Common.{subst}
use Rattle.pc_sheet.specs.Sheet.{Sheet}
use Rattle.pc_display.specs.Show.{IsShown}
use Rattle.pc_spreadsheet.proofs.pages.write_display.Goals as goal

pub returns : goal.returns
returns g c =
    let shown = c.has_displays.ensures.shown in
    let is : IsShown c.args.session.now.sheet shown.0 = subst (λ (s : Sheet). IsShown s shown.0) c.book.ensures shown.1 in
    (shown.0, is, c.show.ensures shown.0 is)
