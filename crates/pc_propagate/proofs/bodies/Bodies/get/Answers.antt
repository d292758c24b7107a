use Rattle.pc_lits.proofs.RowsLemmas.{within_ends}
use Rattle.std.proofs.Common.{sym}
use Rattle.pc_propagate.proofs.BodyLemmas.{row_is}
use Rattle.pc_propagate.proofs.bodies.Bodies.get.Goals as goal

pub span-start-requires-clause-number : goal.span-start-requires-clause-number
span-start-requires-clause-number c = rw c.deref.ensures.value (within_ends _ _ _ c.args.number c.self.view_is c.requires)

pub returns : goal.returns
returns c =
    rw (c.span-start.ensures.start, c.span-start.ensures.end, c.deref.ensures.value, c.as_slice-literals.ensures.value, ← c.self.view_is)
    (sym (row_is c.self.inside.literals.items 0 c.self.inside.ends.items c.args.number (within_ends _ _ _ c.args.number c.self.view_is c.requires)))
