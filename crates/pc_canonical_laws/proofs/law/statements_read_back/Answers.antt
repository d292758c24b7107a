use Rattle.pc_canonical_laws.proofs.ReadingBack.{reads_back}
use Rattle.pc_canonical_laws.proofs.law.statements_read_back.Goals as goal

pub returns : goal.returns
returns c = reads_back
