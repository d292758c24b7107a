use Rattle.std.proofs.Common.{◌≡◌, map}
use Rattle.serde_json.specs.View.{view}
use Rattle.pc_display.specs.Supports.{IsReasoning, Reasoning}
use Rattle.pc_display.specs.Show.{cells_below}
use Rattle.pc_display.specs.Json.{cell_data}
use Rattle.pc_display.proofs.objects.cells_json.Given as goal

abbrev pub invariant-loop-cell : goal.invariant-loop-cell
invariant-loop-cell g l =
    (reason : Reasoning) → IsReasoning (g.V.Supports.sheet l.view) reason
    → map view l.list.items ≡ map (cell_data (g.V.Supports.sheet l.view) reason) (cells_below l.cell)
