use Rattle.std.proofs.Common.{take}
use Rattle.pc_repairs.specs.inside.Ages.{AreAged}
use Rattle.pc_repairs.proofs.ordering.aged_sets.Given as goal

abbrev pub invariant-loop-i : goal.invariant-loop-i
invariant-loop-i l = AreAged l.entries (take l.i l.worlds) l.aged.items
