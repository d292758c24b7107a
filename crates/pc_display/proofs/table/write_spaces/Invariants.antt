use Rattle.std.proofs.Common.{◌*◌, Ok, replicate}
use Rattle.pc_port.specs.declared.source.Failed.{Failed}
use Rattle.pc_writer.specs.Writes.{Writes}
use Rattle.pc_display.proofs.table.write_spaces.Given as goal

abbrev pub invariant-loop : goal.invariant-loop
invariant-loop g l = Writes {T = Unit {0}} {E = Failed} g.O.Sink.given g.O.Sink.faults l.initial.out l.out (Ok tt) (replicate (64 * l.counter) 32)
