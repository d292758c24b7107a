use Rattle.std.proofs.Common.{Ok}
use Rattle.std.specs.List.{flat_map}
use Rattle.pc_port.specs.declared.source.Failed.{Failed}
use Rattle.pc_sheet.specs.Cells.{values_below}
use Rattle.pc_writer.specs.Spelling.{sort_of}
use Rattle.pc_writer.specs.Writes.{Writes}
use Rattle.pc_display.specs.Supports.{IsReasoning, Reasoning}
use Rattle.pc_display.specs.Show.{reason_of, value_line}
use Rattle.pc_display.proofs.display.write_value_lines.Given as goal

abbrev pub invariant-loop-value : goal.invariant-loop-value
invariant-loop-value g l =
    let u = (g.V.Supports.sheet l.view).universe in
    (reason : Reasoning) → IsReasoning (g.V.Supports.sheet l.view) reason
    → Writes {T = Unit {0}} {E = Failed} g.O.Sink.given g.O.Sink.faults l.initial.out l.out (Ok tt)
    (flat_map (λ v. value_line u (sort_of u l.cell) v (reason_of reason l.cell v)) (values_below l.value))
