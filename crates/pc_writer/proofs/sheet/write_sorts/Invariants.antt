use Rattle.std.proofs.Common.{take, map, Ok}
use Rattle.std.specs.List.{flat_map}
use Rattle.pc_writer.specs.SheetText.{ended, sort_line}
use Rattle.pc_port.specs.declared.source.Failed.{Failed}
use Rattle.pc_writer.specs.Writes.{Writes}
use Rattle.pc_writer.proofs.sheet.write_sorts.Given as goal

abbrev pub invariant-loop-i : goal.invariant-loop-i
invariant-loop-i g l =
    let u = l.book.universe in
    Writes {T = Unit {0}} {E = Failed} g.O.Sink.given g.O.Sink.faults l.initial.out l.out (Ok tt)
    (flat_map ended (take l.i (map sort_line u.sorts)))
