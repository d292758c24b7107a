use Rattle.std.proofs.Common.{◌+◌, ap}
use Rattle.pc_writer.proofs.InTurn.{Writes-then, Writes-cut, Writes-same}
use Rattle.pc_cert_text.specs.CertificateText.{number_text}
use Rattle.pc_cert_text.specs.inside.Steps.{number_in}
use Rattle.pc_cert_text.proofs.hint.write_hint.Goals as goal

pub returns-in_err-write_text : goal.returns-in_err-write_text
returns-in_err-write_text g c = Writes-cut c.from_residual.result (number_text (number_in c.args.lines c.args.hint.0 + 1)) c.from_residual.ensures.0 c.in_err-write_text.ensures

pub returns : goal.returns
returns g c = Writes-then c.in_ok-write_text.ensures (Writes-same (ap number_text c.number_of.ensures) c.write_number.ensures)
