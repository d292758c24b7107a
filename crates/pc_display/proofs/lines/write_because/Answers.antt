use Rattle.std.proofs.Common.{sym}
use Rattle.pc_writer.specs.Spelling.{entries_text}
use Rattle.pc_writer.proofs.InTurn.{Writes-then, Writes-cut, Writes-same}
use Rattle.pc_display.proofs.LineLemmas.{because_some}
use Rattle.pc_display.proofs.lines.write_because.Goals as goal

pub returns-in_err-write_text : goal.returns-in_err-write_text
returns-in_err-write_text g c =
    let u = c.args.book.now.universe in
    let text = because_some u c.args.support.now c.is_empty.result c.is_empty.ensures c.if-is_empty.false in
    Writes-same (sym text) (Writes-cut c.from_residual.result (entries_text u c.args.support.now) c.from_residual.ensures.0 c.in_err-write_text.ensures)

pub returns : goal.returns
returns g c =
    let u = c.args.book.now.universe in
    let text = because_some u c.args.support.now c.is_empty.result c.is_empty.ensures c.if-is_empty.false in
    Writes-same (sym text) (Writes-then c.in_ok-write_text.ensures c.write_entries.ensures)
