use Rattle.pc_checker.proofs.Acceptance.{accepted_is_accepts}
use Rattle.pc_checker.proofs.law.accepted_is_accepts.Goals as goal

pub returns : goal.returns
returns c = accepted_is_accepts
