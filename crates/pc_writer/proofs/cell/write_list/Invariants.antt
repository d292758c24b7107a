use Rattle.std.proofs.Common.{take, Ok}
use Rattle.pc_port.specs.declared.source.Failed.{Failed}
use Rattle.pc_writer.specs.Spelling.{application_of, joined, value_texts}
use Rattle.pc_writer.specs.Writes.{Writes}
use Rattle.pc_writer.proofs.cell.write_list.Given as goal

abbrev pub invariant-loop-i : goal.invariant-loop-i
invariant-loop-i g l =
    let u = l.book.universe in
    Writes {T = Unit {0}} {E = Failed} g.O.Sink.given g.O.Sink.faults l.initial.out l.out (Ok tt)
    (joined l.separator (take l.i (value_texts u l.sorts (application_of u l.cell).arguments)))
