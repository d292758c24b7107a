use Rattle.std.proofs.Common.{take, codes, Ok}
use Rattle.pc_port.specs.declared.source.Failed.{Failed}
use Rattle.pc_writer.specs.Spelling.{joined}
use Rattle.pc_writer.specs.Writes.{Writes}
use Rattle.pc_display.specs.Show.{entered_texts}
use Rattle.pc_display.proofs.lines.write_values.Given as goal

abbrev pub invariant-loop-i : goal.invariant-loop-i
invariant-loop-i g l =
    Writes {T = Unit {0}} {E = Failed} g.O.Sink.given g.O.Sink.faults l.initial.out l.out (Ok tt)
    (joined (codes ", ") (take l.i (entered_texts l.book.universe l.sort l.entries)))
