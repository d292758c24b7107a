use Rattle.std.proofs.Common.{◌≡◌, Ok, codes}
use Rattle.pc_port.specs.declared.source.Failed.{Failed}
use Rattle.pc_writer.specs.Spelling.{joined}
use Rattle.pc_writer.specs.Writes.{Writes}
use Rattle.pc_display.specs.Supports.{IsReasoning, Reasoning}
use Rattle.pc_display.proofs.ImpliedSoFar.{so_far}
use Rattle.pc_display.proofs.Joining.{is_any}
use Rattle.pc_display.proofs.table.write_implied.Given as goal

abbrev pub invariant-loop-value : goal.invariant-loop-value
invariant-loop-value g l =
    let u = (g.V.Supports.sheet l.view).universe in
    (reason : Reasoning) → IsReasoning (g.V.Supports.sheet l.view) reason
    → (l.some ≡ is_any (so_far u reason l.cell l.value))
    × Writes {T = Unit {0}} {E = Failed} g.O.Sink.given g.O.Sink.faults l.initial.out l.out (Ok tt) (joined (codes ", ") (so_far u reason l.cell l.value))
