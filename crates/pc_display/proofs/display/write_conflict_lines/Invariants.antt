use Rattle.std.proofs.Common.{Ok, take}
use Rattle.std.specs.List.{flat_map}
use Rattle.pc_port.specs.declared.source.Failed.{Failed}
use Rattle.pc_writer.specs.Writes.{Writes}
use Rattle.pc_display.specs.Supports.{IsReasoning, Reasoning}
use Rattle.pc_display.specs.Show.{conflict_line, conflict_of}
use Rattle.pc_display.proofs.display.write_conflict_lines.Given as goal

abbrev pub invariant-loop-entry : goal.invariant-loop-entry
invariant-loop-entry g l =
    let u = (g.V.Supports.sheet l.view).universe in
    (reason : Reasoning) → IsReasoning (g.V.Supports.sheet l.view) reason
    → Writes {T = Unit {0}} {E = Failed} g.O.Sink.given g.O.Sink.faults l.initial.out l.out (Ok tt)
    (flat_map (λ e. conflict_line u l.sort l.several e.value (conflict_of reason e)) (take l.entry-index l.entries))
