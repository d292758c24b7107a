use Rattle.pc_run_laws.proofs.Posting.{posts_end}
use Rattle.pc_run_laws.proofs.inputs.posts_of_enough_are_answered.Goals as goal

pub returns : goal.returns
returns c = posts_end c.words_fit_one_request.ensures c.journals_read_back.ensures c.texts_are_refused_in_full.ensures.opened c.faultless_posts_are_answered.ensures
