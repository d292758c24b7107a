use Rattle.pc_theorem.proofs.Worked.{worked_words}
use Rattle.pc_theorem.proofs.law.worked_words.Goals as goal

pub returns : goal.returns
returns c = worked_words c.words_fit_one_request.ensures c.dumps_start_again.ensures c.sheet_has_one_display.ensures
