use Rattle.std.proofs.Common.{sym, ◌∙◌}
use Rattle.pc_ground.proofs.LeavesAdded.{as_many}
use Rattle.pc_ground.proofs.leaves.Leaves.len.Goals as goal

pub returns : goal.returns
returns c = c.len.ensures ∙ c.self.inside.truths.ok.0 ∙ sym (as_many c.self.inside.reads c.self.inside.truths.items c.args.self.now c.self.view_is c.self.invariant)
