-- Why a target is implied, as text.
use Rattle.std.specs.Prelude.{◌≡◌, ℕ, List, [], Option, Result}
use Rattle.pc_sheet.specs.Sheet.{Sheet}
use Rattle.pc_sheet.specs.Entailment.{IsImplied, IsLeastSupport}
use Rattle.pc_sheet.specs.declared.ids.Target.{Target}
use Rattle.pc_accept.specs.Accepts.{implied, Certificate, Accepts}
use Rattle.pc_accept.specs.Writable.{IsWritableCertificate}
use Rattle.pc_writer.specs.Writes.{Writes}
use Rattle.pc_cert_text.specs.CertificateText.{certificate_text}

-- a certificate that the target is implied by its least support, which the sheet accepts, and which can be written
pub record IsFor (sheet : Sheet) (t : Target) (c : Certificate) : Type 0 where
  pub claim : c.claim ≡ implied t
  pub least : IsLeastSupport sheet c.uses t
  pub accepted : Accepts sheet c
  pub written : IsWritableCertificate sheet c

-- of an implied target such a certificate's text is written, and of another nothing
pub record WritesWhy {S T E : Type 0} (sheet : Sheet) (t : Target) (given : S → Option (List ℕ)) (faults : S → ℕ) (before after : S) (outcome : Result T E) : Type 0 where
  pub reason : IsImplied sheet t → (c : Certificate) × IsFor sheet t c × Writes given faults before after outcome (certificate_text sheet c)
  pub nothing : ¬ IsImplied sheet t → Writes given faults before after outcome []
