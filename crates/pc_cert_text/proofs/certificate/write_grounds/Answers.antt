use Rattle.std.proofs.Common.{◌++◌, ap}
use Rattle.pc_reason.specs.Derivation.{entries_from}
use Rattle.pc_writer.proofs.InTurn.{Writes-then, Writes-cut, Writes-same}
use Rattle.pc_cert_text.specs.CertificateText.{values_text}
use Rattle.pc_cert_text.specs.inside.Steps.{ending_text, lines_in}
use Rattle.pc_cert_text.proofs.certificate.write_grounds.Goals as goal

pub returns-in_err-write_uses : goal.returns-in_err-write_uses
returns-in_err-write_uses g c =
    let ending = ending_text c.args.book.now c.args.names.now (lines_in c.args.lines) in
    Writes-cut c.from_residual.result (values_text c.args.book.now.universe (entries_from 0 c.args.shown.now) ++ ending) c.from_residual.ensures.0 c.in_err-write_uses.ensures

pub returns-in_err-write_values : goal.returns-in_err-write_values
returns-in_err-write_values g c =
    let ending = ending_text c.args.book.now c.args.names.now (lines_in c.args.lines) in
    let same = ap (λ vs. values_text c.args.book.now.universe (entries_from 0 vs)) c.values.ensures in
    Writes-then c.in_ok-write_uses.ensures (Writes-cut c.from_residual-in_err-write_values.result ending c.from_residual-in_err-write_values.ensures.0 (Writes-same same c.in_err-write_values.ensures))

pub returns : goal.returns
returns g c =
    let same = ap (λ vs. values_text c.args.book.now.universe (entries_from 0 vs)) c.values.ensures in
    Writes-then c.in_ok-write_uses.ensures (Writes-then (Writes-same same c.in_ok-write_values.ensures) c.write_ending.ensures)
