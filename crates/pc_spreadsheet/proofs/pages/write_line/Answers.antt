use Rattle.std.proofs.Common.{codes}
use Rattle.pc_writer.proofs.InTurn.{Writes-then, Writes-cut, Writes-same}
use Rattle.pc_spreadsheet.proofs.pages.write_line.Goals as goal

pub returns-in_err-write_text : goal.returns-in_err-write_text
returns-in_err-write_text g c = Writes-cut c.from_residual.result (codes "\n") c.from_residual.ensures.0 (Writes-same c.as_bytes.ensures.value c.in_err-write_text.ensures)

pub returns : goal.returns
returns g c = Writes-then (Writes-same c.as_bytes.ensures.value c.in_ok-write_text.ensures) c.write_text-2.ensures
