use Rattle.std.proofs.Common.{refl}
use Rattle.pc_cert_text.specs.CertificateText.{certificate_text}
use Rattle.pc_spreadsheet.proofs.pages.write_certificate.Goals as goal

pub returns : goal.returns
returns g c =
    let written = c.write_refutation.ensures in
    (certificate_text c.args.refutation.now written.0, (written.0, written.1, refl), written.2)
