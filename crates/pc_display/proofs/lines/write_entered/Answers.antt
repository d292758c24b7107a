use Rattle.std.proofs.Common.{◌∙◌, ap}
use Rattle.pc_writer.specs.Spelling.{sort_of}
use Rattle.pc_writer.proofs.InTurn.{Writes-same}
use Rattle.pc_display.specs.Show.{entered_text}
use Rattle.pc_display.proofs.LineLemmas.{entered_none, entered_some}
use Rattle.pc_display.proofs.lines.write_entered.Goals as goal

pub returns-then-is_empty : goal.returns-then-is_empty
returns-then-is_empty g c =
    let u = c.args.book.now.universe in
    Writes-same (entered_none u (sort_of u c.args.cell) c.args.entries.now c.is_empty.result c.is_empty.ensures c.if-is_empty.true) c.write_text.ensures

pub returns : goal.returns
returns g c =
    let u = c.args.book.now.universe in
    let es = c.args.entries.now in
    Writes-same (entered_some u c.sort_of.result es c.is_empty.result c.is_empty.ensures c.if-is_empty.false ∙ ap (λ s. entered_text u s es) c.sort_of.ensures) c.write_values.ensures
