-- A reason's text as that of a certificate for its target.
use Rattle.std.proofs.Common.{◌≡◌, ℕ, List, Option, Result, refl, ap, ◌∙◌}
use Rattle.pc_sheet.specs.Sheet.{Sheet}
use Rattle.pc_sheet.specs.declared.ids.Target.{Target}
use Rattle.pc_reason.specs.declared.reason.Reason.{Reason}
use Rattle.pc_reason.specs.Reasons.{certificate_of, justification_of, IsReason}
use Rattle.pc_writer.specs.Writes.{Writes}
use Rattle.pc_writer.proofs.InTurn.{Writes-same}
use Rattle.pc_cert_text.specs.CertificateText.{certificate_text}
use Rattle.pc_cert_text.specs.Why.{WritesWhy}

pub reason_written : {S T E : Type 0} {given : S → Option (List ℕ)} {faults : S → ℕ} {before after : S} {outcome : Result T E} (sheet book : Sheet) (t : Target) (r : Reason)
    → book ≡ sheet → IsReason sheet t r → Writes given faults before after outcome (certificate_text book (certificate_of r.names.now r.target (justification_of r)))
    → WritesWhy sheet t given faults before after outcome
reason_written sheet book t r same is wrote = record {
  reason = λ implied. (
    certificate_of r.names.now t (justification_of r),
    record { claim = refl; least = is.justifies.least; accepted = is.justifies.accepted; written = is.justifies.written },
    Writes-same
        (ap (λ (s : Sheet). certificate_text s (certificate_of r.names.now r.target (justification_of r))) same
        ∙ ap (λ (u : Target). certificate_text sheet (certificate_of r.names.now u (justification_of r))) is.target) wrote,
  );
  nothing = λ unimplied. absurd (unimplied (r.support.now, is.justifies.least.supports));
}
