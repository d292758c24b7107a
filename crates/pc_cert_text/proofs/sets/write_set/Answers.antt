use Rattle.std.proofs.Common.{◌++◌}
use Rattle.pc_reason.specs.Derivation.{entries_from}
use Rattle.pc_writer.proofs.InTurn.{Writes-then, Writes-cut}
use Rattle.pc_cert_text.specs.CertificateText.{uses_text, values_text}
use Rattle.pc_cert_text.proofs.sets.write_set.Goals as goal

pub returns-in_err-write_text : goal.returns-in_err-write_text
returns-in_err-write_text g c =
    let u = c.args.book.now.universe in
    Writes-cut c.from_residual.result (uses_text u c.args.entries.now ++ values_text u (entries_from 0 c.args.values.now)) c.from_residual.ensures.0 c.in_err-write_text.ensures

pub returns-in_err-write_uses : goal.returns-in_err-write_uses
returns-in_err-write_uses g c =
    let u = c.args.book.now.universe in
    Writes-then c.in_ok-write_text.ensures
    (Writes-cut c.from_residual-in_err-write_uses.result (values_text u (entries_from 0 c.args.values.now)) c.from_residual-in_err-write_uses.ensures.0 c.in_err-write_uses.ensures)

pub returns : goal.returns
returns g c = Writes-then c.in_ok-write_text.ensures (Writes-then c.in_ok-write_uses.ensures c.write_values.ensures)
