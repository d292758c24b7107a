use Rattle.std.proofs.Common.{take}
use Rattle.pc_sortcheck.specs.Declaring.{AreSortsNamed}
use Rattle.pc_sortcheck.proofs.tables.find_sorts.Given as goal

abbrev pub invariant-loop-name : goal.invariant-loop-name
invariant-loop-name l = AreSortsNamed l.book.universe (take l.name-index l.names) l.sorts.items
