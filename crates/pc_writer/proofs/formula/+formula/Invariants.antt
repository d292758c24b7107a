use Rattle.std.proofs.Common.{take, map, Ok}
use Rattle.pc_sheet.specs.Views.{statement_of, statements_of}
use Rattle.pc_writer.specs.FormulaText.{part_texts}
use Rattle.pc_writer.specs.inside.Scope.{variables_of}
use Rattle.pc_writer.specs.Spelling.{joined}
use Rattle.pc_port.specs.declared.source.Failed.{Failed}
use Rattle.pc_writer.specs.Writes.{Writes}
use Rattle.pc_writer.proofs.formula.+formula.Given as goal

abbrev pub invariant-write_parts-loop-i : goal.invariant-write_parts-loop-i
invariant-write_parts-loop-i g l =
    let u = l.book.universe in
    let vs = variables_of l.variables in
    Writes {T = Unit {0}} {E = Failed} g.O.Sink.given g.O.Sink.faults l.initial.out l.out (Ok tt)
    (joined l.separator (take l.i (part_texts u vs l.asked (statements_of (map statement_of l.parts)))))
