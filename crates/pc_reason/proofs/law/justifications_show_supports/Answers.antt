use Rattle.pc_reason.proofs.WrittenLemmas.{justifications_show}
use Rattle.pc_reason.proofs.law.justifications_show_supports.Goals as goal

pub returns : goal.returns
returns c = justifications_show
