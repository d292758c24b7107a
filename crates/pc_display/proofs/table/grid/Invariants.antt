use Rattle.std.proofs.Common.{IfSome, Ok}
use Rattle.std.specs.List.{flat_map}
use Rattle.pc_port.specs.declared.source.Failed.{Failed}
use Rattle.pc_writer.specs.Writes.{Writes}
use Rattle.pc_display.specs.Supports.{IsReasoning, Reasoning}
use Rattle.pc_display.specs.Show.{cells_below}
use Rattle.pc_display.specs.Grid.{grid_line}
use Rattle.pc_display.specs.inside.Names.{IsNamedSo}
use Rattle.pc_display.proofs.table.grid.Given as goal

abbrev pub invariant-loop-cell : goal.invariant-loop-cell
invariant-loop-cell g l = record {
  written : (reason : Reasoning) → IsReasoning (g.V.Supports.sheet l.view) reason
      → Writes {T = Unit {0}} {E = Failed} g.O.Sink.given g.O.Sink.faults l.initial.out l.out (Ok tt)
      (flat_map (grid_line (g.V.Supports.sheet l.view) reason l.widths.cell l.widths.entry) (cells_below l.cell));
  name : IfSome l.before (IsNamedSo (g.V.Supports.sheet l.view).universe);
}
