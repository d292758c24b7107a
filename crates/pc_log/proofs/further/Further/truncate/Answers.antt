use Rattle.std.proofs.Common.{arith}
use Rattle.pc_log.proofs.LineLemmas.{lengths, lines_of-take, HasWholeLines-take}
use Rattle.pc_log.proofs.further.Further.truncate.Goals as goal

pub truncate-requires-2 : goal.truncate-requires-2
truncate-requires-2 c = omega (arith, c.requires, (lengths _ _ _ _ c.self.invariant c.self.view_is).0)

pub truncate-requires-3 : goal.truncate-requires-3
truncate-requires-3 c = omega (arith, c.requires, (lengths _ _ _ _ c.self.invariant c.self.view_is).1)

pub invariant_of-self : goal.invariant_of-self
invariant_of-self c = rw (c.truncate.ensures.items, c.truncate-2.ensures, c.truncate-3.ensures) (HasWholeLines-take _ _ _ c.args.count c.self.invariant)

pub returns : goal.returns
returns c = rw (c.truncate.ensures.items, c.truncate-2.ensures, c.truncate-3.ensures, ← c.self.view_is) (lines_of-take _ _ _ c.args.count c.self.invariant)
