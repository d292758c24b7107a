use Rattle.std.proofs.Common.{[], ◌∷◌, ◌++◌, ap, ◌∙◌}
use Rattle.pc_ground.proofs.LeavesAdded.{pushed}
use Rattle.pc_ground.proofs.leaves.Leaves.push.Goals as goal

pub returns : goal.returns
returns c =
    pushed c.self.inside.reads c.push.new.self c.self.inside.truths.items c.push-2.new.self.items c.args.reads.now c.args.is c.args.self.now c.self.view_is c.self.invariant c.in_ok-push.ensures.ok
    (c.in_ok-push-2.ensures.items ∙ ap (λ xs. xs ++ c.args.is ∷ []) c.in_ok-reserve.ensures.items)
