use Rattle.pc_run_laws.proofs.Posting.{faultless_posts_end}
use Rattle.pc_run_laws.proofs.inputs.faultless_posts_are_answered.Goals as goal

pub returns : goal.returns
returns c = faultless_posts_end c.words_fit_one_request.ensures
