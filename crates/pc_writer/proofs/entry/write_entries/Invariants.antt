use Rattle.std.proofs.Common.{take, codes, map, Ok}
use Rattle.pc_port.specs.declared.source.Failed.{Failed}
use Rattle.pc_writer.specs.Spelling.{joined, entry_text}
use Rattle.pc_writer.specs.Writes.{Writes}
use Rattle.pc_writer.proofs.entry.write_entries.Given as goal

abbrev pub invariant-loop-i : goal.invariant-loop-i
invariant-loop-i g l =
    Writes {T = Unit {0}} {E = Failed} g.O.Sink.given g.O.Sink.faults l.initial.out l.out (Ok tt)
    (joined (codes ", ") (take l.i (map (entry_text l.book.universe) l.entries)))
