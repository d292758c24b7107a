use Rattle.std.proofs.Common.{◌≡◌, map, take}
use Rattle.serde_json.specs.View.{view}
use Rattle.pc_display.specs.Supports.{IsReasoning, Reasoning}
use Rattle.pc_display.specs.Show.{conflict_of}
use Rattle.pc_display.specs.Json.{conflict_data}
use Rattle.pc_display.proofs.objects.conflicts_json.Given as goal

abbrev pub invariant-loop-entry : goal.invariant-loop-entry
invariant-loop-entry g l =
    let u = (g.V.Supports.sheet l.view).universe in
    (reason : Reasoning) → IsReasoning (g.V.Supports.sheet l.view) reason
    → map view l.list.items ≡ map (λ e. conflict_data u (conflict_of reason e)) (take l.entry-index l.entries)
