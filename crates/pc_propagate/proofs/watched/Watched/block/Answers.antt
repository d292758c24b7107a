use Rattle.pc_propagate.proofs.StepLemmas.{blocked}
use Rattle.pc_propagate.proofs.watched.Watched.block.Goals as goal

pub invariant_of-self : goal.invariant_of-self
invariant_of-self c =
    let list = rw (← c.self.view_is) at c.requires.list in
    let is = rw (← c.self.view_is) at c.requires.is in
    let blocker = rw (← c.self.view_is) at c.requires.blocker in
    blocked c.self.inside.bodies c.self.inside.lists c.replace.new.self c.args.lit c.code_of.result c.args.index c.args.watch c.args.blocker c.self.invariant c.code_of.ensures.is list is blocker c.replace.ensures
