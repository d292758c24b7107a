use Rattle.pc_run_laws.proofs.Certificates.{certificates}
use Rattle.pc_run_laws.proofs.law.certificates_are_refused_in_checks.Goals as goal

pub returns : goal.returns
returns c = certificates
