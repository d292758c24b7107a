use Rattle.std.proofs.Common.{take, map, Ok}
use Rattle.std.specs.List.{flat_map}
use Rattle.pc_sheet.specs.Views.{added_of}
use Rattle.pc_writer.specs.FormulaText.{added_text}
use Rattle.pc_writer.specs.inside.Scope.{variables_of}
use Rattle.pc_port.specs.declared.source.Failed.{Failed}
use Rattle.pc_writer.specs.Writes.{Writes}
use Rattle.pc_writer.proofs.formula.write_rest.Given as goal

abbrev pub invariant-loop-sign : goal.invariant-loop-sign
invariant-loop-sign g l =
    let u = l.book.universe in
    let vs = variables_of l.variables in
    Writes {T = Unit {0}} {E = Failed} g.O.Sink.given g.O.Sink.faults l.initial.out l.out (Ok tt)
    (flat_map (added_text u vs) (take l.sign-index (map added_of l.rest)))
