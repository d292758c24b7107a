use Rattle.std.proofs.Common.{Err, ◌∙◌, ap}
use Rattle.pc_cert.proofs.claim.denial_or_against.Goals as goal

pub returns-in_err-name-in-Err-Syntax-clause-denial : goal.returns-in_err-name-in-Err-Syntax-clause-denial
returns-in_err-name-in-Err-Syntax-clause-denial c = λ e. c.read_denial.ensures.none (c.in-Err-Syntax.is ∙ ap Err c.in-Err-Syntax.field-0-is)
