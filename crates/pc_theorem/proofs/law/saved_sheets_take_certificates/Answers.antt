use Rattle.pc_theorem.proofs.Saved.{saved_sheets_take_certificates}
use Rattle.pc_theorem.proofs.law.saved_sheets_take_certificates.Goals as goal

pub returns : goal.returns
returns c = saved_sheets_take_certificates
