use Rattle.std.proofs.Common.{take, Ok, map}
use Rattle.std.specs.List.{flat_map}
use Rattle.pc_world_list.specs.SetCertificates.{given_of}
use Rattle.pc_port.specs.declared.source.Failed.{Failed}
use Rattle.pc_writer.specs.Writes.{Writes}
use Rattle.pc_cert_text.specs.CertificateText.{set_text}
use Rattle.pc_cert_text.proofs.sets.write_worlds.Given as goal

abbrev pub invariant-loop-i : goal.invariant-loop-i
invariant-loop-i g l =
    Writes {T = Unit {0}} {E = Failed} g.O.Sink.given g.O.Sink.faults l.initial.out l.out (Ok tt) (flat_map (set_text l.book.universe) (take l.i (map given_of l.sets)))
