use Rattle.pc_canonical_laws.proofs.Texts.{text_reads_back}
use Rattle.pc_canonical_laws.proofs.law.texts_read_back.Goals as goal

pub returns : goal.returns
returns c = text_reads_back c.sheets_read_back.ensures
