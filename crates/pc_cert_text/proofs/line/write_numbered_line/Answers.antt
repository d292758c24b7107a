use Rattle.pc_log.specs.Shown.{shown_line}
use Rattle.pc_writer.proofs.InTurn.{Writes-then, Writes-cut}
use Rattle.pc_cert_text.specs.CertificateText.{behind_blank}
use Rattle.pc_cert_text.specs.inside.Steps.{logged_text}
use Rattle.pc_cert_text.proofs.line.write_numbered_line.Goals as goal

pub returns-in_err-write_number : goal.returns-in_err-write_number
returns-in_err-write_number g c =
    Writes-cut c.from_residual.result (behind_blank (logged_text c.args.book.now c.args.names.now c.args.lines (shown_line c.args.line))) c.from_residual.ensures.0 c.in_err-write_number.ensures

pub returns-in_err-write_text : goal.returns-in_err-write_text
returns-in_err-write_text g c =
    Writes-then c.in_ok-write_number.ensures
    (Writes-cut c.from_residual-in_err-write_text.result (logged_text c.args.book.now c.args.names.now c.args.lines (shown_line c.args.line)) c.from_residual-in_err-write_text.ensures.0 c.in_err-write_text.ensures)

pub returns : goal.returns
returns g c = Writes-then c.in_ok-write_number.ensures (Writes-then c.in_ok-write_text.ensures c.write_line.ensures)
