use Rattle.pc_log.proofs.LineLemmas.{lines_of-push, HasWholeLines-push}
use Rattle.pc_log.proofs.further.Further.add.Goals as goal

pub invariant_of-self-2 : goal.invariant_of-self-2
invariant_of-self-2 c =
    rw (c.in_ok-push.ensures.ok, c.in_default.ensures.ok, c.in_ok-push-2.ensures.items, c.in_ok-reserve.ensures.items)
    (HasWholeLines-push _ _ _ c.args.kind c.args.clause.now c.args.hints.now c.self.invariant c.requires)

pub returns-clause-ok : goal.returns-clause-ok
returns-clause-ok c =
    rw (c.in_ok-push.ensures.ok, c.in_default.ensures.ok, c.in_ok-push-2.ensures.items, c.in_ok-reserve.ensures.items, ← c.self.view_is)
    (lines_of-push _ _ _ c.args.kind c.args.clause.now c.args.hints.now c.self.invariant)
