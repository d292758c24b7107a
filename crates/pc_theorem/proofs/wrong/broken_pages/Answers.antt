use Rattle.pc_theorem.proofs.WrongPages.{broken_pages}
use Rattle.pc_theorem.proofs.wrong.broken_pages.Goals as goal

pub returns : goal.returns
returns c = broken_pages c.one_reading.ensures.command c.texts_have_one_outcome.ensures
