use Rattle.pc_theorem.proofs.WrongCertificates.{broken_certificates}
use Rattle.pc_theorem.proofs.wrong.broken_certificates.Goals as goal

pub returns : goal.returns
returns c = broken_certificates c.one_reading.ensures.command c.lines_have_one_verdict.ensures c.implied_has_one_least_support.ensures
