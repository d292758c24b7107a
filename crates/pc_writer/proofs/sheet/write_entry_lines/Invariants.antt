use Rattle.std.proofs.Common.{take, Ok}
use Rattle.std.specs.List.{flat_map}
use Rattle.pc_writer.specs.SheetText.{ended, entry_lines}
use Rattle.pc_port.specs.declared.source.Failed.{Failed}
use Rattle.pc_writer.specs.Writes.{Writes}
use Rattle.pc_writer.proofs.LaterEntries.{AreNoted}
use Rattle.pc_writer.proofs.sheet.write_entry_lines.Given as goal

abbrev pub invariant-loop-entry : goal.invariant-loop-entry
invariant-loop-entry g l =
    let u = l.book.universe in
    AreNoted l.noted (take l.entry-index l.entry-items)
    × Writes {T = Unit {0}} {E = Failed} g.O.Sink.given g.O.Sink.faults l.initial.out l.out (Ok tt)
    (flat_map ended (take l.entry-index (entry_lines u l.entry-items)))
