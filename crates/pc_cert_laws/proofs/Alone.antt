-- The text of a certificate is read as that certificate alone.
use Rattle.std.proofs.Common.{Ok, Err, subst}
use Rattle.pc_cert.specs.declared.cert.CertFault.TheVariants as cert_fault
use Rattle.pc_cert.specs.Text.{certificate, fault_at, syntax, unknown_name}
use Rattle.pc_cert.specs.Views.{reading_of}
use Rattle.pc_cert.specs.Readings.{TextsHaveOneReading}
use Rattle.pc_cert_text.specs.CertificateText.{certificate_text}
use Rattle.pc_cert_laws.specs.ReadBack.{IsReadAs, TextsReadBackAlone, ReadersReadBack}
use Rattle.pc_cert_laws.proofs.Whole.{texts_read_back}

pub alone : TextsHaveOneReading → TextsReadBackAlone
alone once sheet c formed of r is =
    let back = texts_read_back sheet c formed of in
    subst (IsReadAs c) (once sheet formed (certificate_text sheet c) (certificate back.reading) r back.read is) back.same

pub answered : TextsHaveOneReading → ReadersReadBack
answered once sheet c formed of (Ok cert) told = alone once sheet c formed of (certificate (reading_of cert)) told.0
answered once sheet c formed of (Err (cert_fault.Syntax n)) told = alone once sheet c formed of (fault_at n syntax) told
answered once sheet c formed of (Err (cert_fault.UnknownName n)) told = alone once sheet c formed of (fault_at n unknown_name) told
answered once sheet c formed of (Err cert_fault.Memory) told = tt
