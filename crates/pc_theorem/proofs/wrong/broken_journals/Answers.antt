use Rattle.pc_theorem.proofs.WrongJournals.{broken_journals}
use Rattle.pc_theorem.proofs.wrong.broken_journals.Goals as goal

pub returns : goal.returns
returns c = broken_journals c.one_reading.ensures.command c.dumps_start_again.ensures c.texts_have_one_outcome.ensures c.journals_read_back.ensures
