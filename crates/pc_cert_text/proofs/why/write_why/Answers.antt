use Rattle.std.proofs.Common.{Option, subst}
use Rattle.pc_reason.specs.declared.reason.Reason.{Reason}
use Rattle.pc_reason.specs.Reasons.{IsReasonFor}
use Rattle.pc_cert_text.proofs.WhyLemmas.{reason_written}
use Rattle.pc_cert_text.proofs.why.write_why.Goals as goal

pub returns-in-Some : goal.returns-in-Some
returns-in-Some g c =
    let sheet = g.R.Reasons.sheet c.args.reasons.now in
    reason_written sheet c.book.result.now c.args.target c.in-Some.reason c.book.ensures
    (subst (λ (found : Option Reason). IsReasonFor sheet c.args.target found) c.in-Some.is c.reason.ensures) c.write_reason.ensures
