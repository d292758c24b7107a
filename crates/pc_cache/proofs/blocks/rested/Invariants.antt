use Rattle.std.proofs.Common.{take}
use Rattle.pc_cache.specs.inside.Rested.{AreRowsKept}
use Rattle.pc_cache.proofs.blocks.rested.Given as goal

abbrev pub invariant-loop-slot : goal.invariant-loop-slot
invariant-loop-slot l = AreRowsKept l.blocks l.kept.items (take l.slot-index l.slots)
