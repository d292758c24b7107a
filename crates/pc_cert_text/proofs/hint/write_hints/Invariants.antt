use Rattle.std.proofs.Common.{take, Ok}
use Rattle.std.specs.List.{flat_map}
use Rattle.pc_port.specs.declared.source.Failed.{Failed}
use Rattle.pc_writer.specs.Writes.{Writes}
use Rattle.pc_cert_text.specs.inside.Steps.{hint_text}
use Rattle.pc_cert_text.proofs.hint.write_hints.Given as goal

abbrev pub invariant-loop-hint : goal.invariant-loop-hint
invariant-loop-hint g l = Writes {T = Unit {0}} {E = Failed} g.O.Sink.given g.O.Sink.faults l.initial.out l.out (Ok tt) (flat_map (hint_text l.lines) (take l.hint-index l.hints))
