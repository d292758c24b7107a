use Rattle.pc_logic.proofs.FewChildren.{few_children}
use Rattle.pc_logic.proofs.laws.few_children.Goals as goal

pub returns : goal.returns
returns c = few_children c.args.book.now c.well_formed-2.ensures
