use Rattle.std.proofs.Common.{take, map}
use Rattle.pc_cert.specs.Numbered.{AreSymbolNumbers, AreNumbered}
use Rattle.pc_cert.specs.Trees as tree
use Rattle.pc_cert.proofs.table.number_literals.Given as goal

abbrev pub invariant-loop-literal : goal.invariant-loop-literal
invariant-loop-literal l = (AreSymbolNumbers l.fn.table → AreSymbolNumbers l.table) × AreNumbered l.book (map tree.literal_of (take l.literal-index l.literals)) l.fn.table.names l.table.names l.numbered.items
