use Rattle.std.proofs.Common.{codes}
use Rattle.pc_writer.proofs.InTurn.{Writes-then, Writes-cut}
use Rattle.pc_writer.specs.SheetText.{ended}
use Rattle.pc_cert_text.proofs.certificate.write_ending.Goals as goal

pub returns-in_err-write_lines : goal.returns-in_err-write_lines
returns-in_err-write_lines g c = Writes-cut c.from_residual.result (ended (codes "end")) c.from_residual.ensures.0 c.in_err-write_lines.ensures

pub returns : goal.returns
returns g c = Writes-then c.in_ok-write_lines.ensures c.write_text.ensures
