use Rattle.std.proofs.Common.{◌≡◌, map}
use Rattle.std.specs.List.{flat_map}
use Rattle.serde_json.specs.View.{view}
use Rattle.pc_sheet.specs.Cells.{values_below}
use Rattle.pc_writer.specs.Spelling.{sort_of}
use Rattle.pc_display.specs.Supports.{IsReasoning, Reasoning}
use Rattle.pc_display.specs.Show.{reason_of}
use Rattle.pc_display.specs.Json.{implied_data}
use Rattle.pc_display.proofs.objects.values_json.Given as goal

abbrev pub invariant-loop-value : goal.invariant-loop-value
invariant-loop-value g l =
    let u = (g.V.Supports.sheet l.view).universe in
    (reason : Reasoning) → IsReasoning (g.V.Supports.sheet l.view) reason
    → map view l.list.items ≡ flat_map (λ v. implied_data u (sort_of u l.cell) v (reason_of reason l.cell v)) (values_below l.value)
