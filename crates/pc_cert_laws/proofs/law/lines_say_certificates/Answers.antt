use Rattle.pc_cert_laws.proofs.Saying as saying
use Rattle.pc_cert_laws.proofs.law.lines_say_certificates.Goals as goal

pub returns : goal.returns
returns c = saying.lines_say_certificates
