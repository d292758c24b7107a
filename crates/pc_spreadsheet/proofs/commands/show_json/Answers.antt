use Rattle.std.proofs.Common.{sym, subst}
use Rattle.pc_sheet.specs.Sheet.{Sheet}
use Rattle.pc_display.specs.Json.{IsJson}
use Rattle.pc_spreadsheet.specs.Commands.{by_text, for_memory}
use Rattle.pc_spreadsheet.proofs.commands.show_json.Goals as goal

pub returns-in-Ok : goal.returns-in-Ok
returns-in-Ok c =
    let shown = c.has_displays.ensures.json in
    let is : IsJson c.args.session.now.sheet shown.0 = subst (λ (s : Sheet). IsJson s shown.0) c.book.ensures shown.1 in
    by_text c.in-Ok.text (subst (IsJson c.args.session.now.sheet) (sym (c.in-Ok.ensures.text shown.0 is)) is)

pub returns-in-Err : goal.returns-in-Err
returns-in-Err c = for_memory
