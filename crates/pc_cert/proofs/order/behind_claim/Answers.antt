use Rattle.std.proofs.Common.{refl, ap}
use Rattle.pc_cert.specs.Order.{target_line, inconsistent_line, sets_line, kind_of_written_claim}
use Rattle.pc_cert.specs.Trees.{claim_of}
use Rattle.pc_cert.proofs.Ordered.{behind_other}
use Rattle.pc_cert.proofs.order.behind_claim.Goals as goal

pub returns-in-Implied : goal.returns-in-Implied
returns-in-Implied c = λ before e. behind_other c.args.order.now before target_line _ e (ap (λ t. kind_of_written_claim (claim_of t)) c.in-Implied.is) refl

pub returns-in-Inconsistent : goal.returns-in-Inconsistent
returns-in-Inconsistent c = λ before e. behind_other c.args.order.now before inconsistent_line _ e (ap (λ t. kind_of_written_claim (claim_of t)) c.in-Inconsistent.is) refl

pub returns-in-Repairs : goal.returns-in-Repairs
returns-in-Repairs c = λ before e. behind_other c.args.order.now before sets_line _ e (ap (λ t. kind_of_written_claim (claim_of t)) c.in-Repairs.is) refl

pub returns-in-Not : goal.returns-in-Not
returns-in-Not c = λ before e. behind_other c.args.order.now before sets_line _ e (ap (λ t. kind_of_written_claim (claim_of t)) c.in-Not.is) refl

pub returns-in-Against : goal.returns-in-Against
returns-in-Against c = λ before e. behind_other c.args.order.now before target_line _ e (ap (λ t. kind_of_written_claim (claim_of t)) c.in-Against.is) refl
