-- Which texts are certificates that a sheet accepts.
use Rattle.std.specs.Prelude.{List, ℕ}
use Rattle.pc_sheet.specs.Sheet.{Sheet}
use Rattle.pc_accept.specs.Accepts.{Accepts}
use Rattle.pc_cert.specs.Text.{CertificateReading, IsTextReading, certificate, certificate_read}

-- the text is a certificate that the sheet accepts
abbrev pub IsAcceptedText : Sheet → List ℕ → Type 0
IsAcceptedText sheet text = (r : CertificateReading) × IsTextReading sheet text (certificate r) × Accepts sheet (certificate_read r)
