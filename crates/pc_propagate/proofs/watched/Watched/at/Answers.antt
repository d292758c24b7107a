use Rattle.pc_propagate.specs.Listed.{code_of}
use Rattle.pc_propagate.proofs.watched.Watched.at.Goals as goal

pub returns-clause-known : goal.returns-clause-known
returns-clause-known c =
    let is = rw c.code_of.ensures.is at c.at.ensures in
    rw (← c.self.view_is) (c.self.invariant.known (code_of c.args.lit) c.args.index c.at.result is)
