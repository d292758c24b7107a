use Rattle.pc_cert_laws.proofs.Whole as whole
use Rattle.pc_cert_laws.proofs.law.texts_read_back.Goals as goal

pub returns : goal.returns
returns c = whole.texts_read_back
