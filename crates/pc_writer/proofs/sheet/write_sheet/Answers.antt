use Rattle.std.proofs.Common.{sym}
use Rattle.pc_writer.proofs.Sheets.{sheet_parts}
use Rattle.pc_writer.proofs.InTurn.{Writes-then, Writes-cut, Writes-same}
use Rattle.pc_writer.proofs.sheet.write_sheet.Goals as goal

pub returns-in_err-write_heading : goal.returns-in_err-write_heading
returns-in_err-write_heading g c =
    Writes-same (sym (sheet_parts c.args.book.now)) (Writes-cut c.from_residual.result _ c.from_residual.ensures.0 c.in_err-write_heading.ensures)

pub returns-in_err-write_universe : goal.returns-in_err-write_universe
returns-in_err-write_universe g c =
    Writes-same (sym (sheet_parts c.args.book.now)) (Writes-then c.in_ok-write_heading.ensures (Writes-cut c.from_residual-in_err-write_universe.result _ c.from_residual-in_err-write_universe.ensures.0 c.in_err-write_universe.ensures))

pub returns-in_err-write_rules : goal.returns-in_err-write_rules
returns-in_err-write_rules g c =
    Writes-same (sym (sheet_parts c.args.book.now)) (Writes-then c.in_ok-write_heading.ensures (Writes-then c.in_ok-write_universe.ensures (Writes-cut c.from_residual-in_err-write_rules.result _ c.from_residual-in_err-write_rules.ensures.0 c.in_err-write_rules.ensures)))

pub returns-in_err-write_entry_lines : goal.returns-in_err-write_entry_lines
returns-in_err-write_entry_lines g c =
    Writes-same (sym (sheet_parts c.args.book.now)) (Writes-then c.in_ok-write_heading.ensures (Writes-then c.in_ok-write_universe.ensures (Writes-then c.in_ok-write_rules.ensures (Writes-cut c.from_residual-in_err-write_entry_lines.result _ c.from_residual-in_err-write_entry_lines.ensures.0 c.in_err-write_entry_lines.ensures))))

pub returns : goal.returns
returns g c =
    Writes-same (sym (sheet_parts c.args.book.now)) (Writes-then c.in_ok-write_heading.ensures (Writes-then c.in_ok-write_universe.ensures (Writes-then c.in_ok-write_rules.ensures (Writes-then c.in_ok-write_entry_lines.ensures c.write_text.ensures))))
