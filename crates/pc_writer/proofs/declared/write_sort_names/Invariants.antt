use Rattle.std.proofs.Common.{take, codes, map, Ok}
use Rattle.pc_writer.specs.FormulaText.{sort_name}
use Rattle.pc_writer.specs.Spelling.{joined}
use Rattle.pc_port.specs.declared.source.Failed.{Failed}
use Rattle.pc_writer.specs.Writes.{Writes}
use Rattle.pc_writer.proofs.declared.write_sort_names.Given as goal

abbrev pub invariant-loop-i : goal.invariant-loop-i
invariant-loop-i g l =
    let u = l.book.universe in
    Writes {T = Unit {0}} {E = Failed} g.O.Sink.given g.O.Sink.faults l.initial.out l.out (Ok tt)
    (joined (codes ", ") (take l.i (map (sort_name u) l.sorts)))
