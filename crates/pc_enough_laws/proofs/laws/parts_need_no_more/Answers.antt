use Rattle.pc_enough_laws.proofs.Whole.{parts_need_no_more}
use Rattle.pc_enough_laws.proofs.laws.parts_need_no_more.Goals as goal

pub returns : goal.returns
returns c = parts_need_no_more
