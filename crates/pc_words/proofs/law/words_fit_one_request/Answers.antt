use Rattle.pc_words.proofs.Fitting.{one_request}
use Rattle.pc_words.proofs.law.words_fit_one_request.Goals as goal

pub returns : goal.returns
returns c = one_request
