use Rattle.std.proofs.Common.{refl}
use Rattle.pc_log.specs.Spans.{lines_of_span}
use Rattle.pc_reason.specs.Refutations.{certificate_against}
use Rattle.pc_cert_text.specs.CertificateText.{certificate_text}
use Rattle.pc_spreadsheet.proofs.pages.has_certificate.Goals as goal

pub returns : goal.returns
returns c =
    let proof = c.proof.ensures in
    let certificate = certificate_against c.proof.result.names.now (lines_of_span c.proof.result.log.now c.proof.result.span) in
    (certificate_text c.args.refutation.now certificate, (certificate, record { claim = refl; accepted = proof.accepted; written = proof.written }, refl))
