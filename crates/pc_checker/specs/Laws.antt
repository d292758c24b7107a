-- What verdicts are.
use Rattle.std.specs.Prelude.{◌≡◌, ◌↔◌}
use Rattle.pc_sheet.specs.Sheet.{Sheet}
use Rattle.pc_accept.specs.Accepts.{Accepts}
use Rattle.pc_cert.specs.Text.{CertificateReading, certificate_read}
use Rattle.pc_cert.specs.ReadFor.{IsBare}
use Rattle.pc_checker.specs.declared.verdict.Verdict.{Verdict}
use Rattle.pc_checker.specs.declared.verdict.Verdict.TheVariants.{Accepted}
use Rattle.pc_checker.specs.Verdicts.{IsVerdict}

-- the verdict is that of acceptance exactly where the sheet accepts the certificate
abbrev pub AcceptedIsAccepts : Type 0
AcceptedIsAccepts = (sheet : Sheet) (r : CertificateReading) → IsBare sheet r r.claim → IsVerdict sheet r Accepted ↔ Accepts sheet (certificate_read r)

-- a certificate has one verdict at most
abbrev pub VerdictsAreOne : Type 0
VerdictsAreOne = (sheet : Sheet) (r : CertificateReading) (v w : Verdict) → IsVerdict sheet r v → IsVerdict sheet r w → v ≡ w
