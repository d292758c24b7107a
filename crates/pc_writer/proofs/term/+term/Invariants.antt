use Rattle.std.proofs.Common.{take, codes, map, Ok}
use Rattle.pc_sheet.specs.Views.{item_of, items_of}
use Rattle.pc_writer.specs.FormulaText.{item_texts}
use Rattle.pc_writer.specs.inside.Scope.{variables_of}
use Rattle.pc_writer.specs.Spelling.{joined}
use Rattle.pc_port.specs.declared.source.Failed.{Failed}
use Rattle.pc_writer.specs.Writes.{Writes}
use Rattle.pc_writer.proofs.term.+term.Given as goal

abbrev pub invariant-write_terms-loop-i : goal.invariant-write_terms-loop-i
invariant-write_terms-loop-i g l =
    let u = l.book.universe in
    let vs = variables_of l.variables in
    Writes {T = Unit {0}} {E = Failed} g.O.Sink.given g.O.Sink.faults l.initial.out l.out (Ok tt)
    (joined (codes ", ") (take l.i (item_texts u vs (items_of (map item_of l.terms)))))
