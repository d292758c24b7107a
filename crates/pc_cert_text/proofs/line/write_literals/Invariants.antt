use Rattle.std.proofs.Common.{take, Ok}
use Rattle.std.specs.List.{flat_map}
use Rattle.pc_port.specs.declared.source.Failed.{Failed}
use Rattle.pc_writer.specs.Writes.{Writes}
use Rattle.pc_cert_text.specs.inside.Steps.{spaced_literal_text}
use Rattle.pc_cert_text.proofs.line.write_literals.Given as goal

abbrev pub invariant-loop-literal : goal.invariant-loop-literal
invariant-loop-literal g l = Writes {T = Unit {0}} {E = Failed} g.O.Sink.given g.O.Sink.faults l.initial.out l.out (Ok tt) (flat_map (spaced_literal_text l.book l.names) (take l.literal-index l.clause))
