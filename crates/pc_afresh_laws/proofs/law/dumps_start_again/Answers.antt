use Rattle.pc_afresh_laws.proofs.LoadAfresh.{dumps_start}
use Rattle.pc_afresh_laws.proofs.law.dumps_start_again.Goals as goal

pub returns : goal.returns
returns c = dumps_start c.texts_read_back.ensures c.texts_have_one_verdict.ensures
