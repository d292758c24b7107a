use Rattle.std.proofs.Common.{◌≡◌, length, map, arith, rules, ◌∙◌, ap}
use Rattle.serde_json.specs.View.{view}
use Rattle.serde_json.specs.declared.value.Value.{Array, the_lemmas}
use Rattle.pc_sheet.specs.Cells.{cells}
use Rattle.pc_sheet.specs.Entailment.{cell_sizes}
use Rattle.pc_sheet.proofs.CellsListed.{cells_are_numbered}
use Rattle.pc_display.specs.Show.{cells_below}
use Rattle.pc_display.specs.Json.{array_of, cell_data}
use Rattle.pc_display.proofs.objects.cells_json.Goals as goal

pub returns : goal.returns
returns g c = λ reason is.
    let sheet = g.V.Supports.sheet c.args.view.now in
    let end = c.cells-cell-end.ensures.exact ∙ ap (λ s. length (cell_sizes s.universe)) c.book.ensures in
    let whole : c.loop-cell.cell ≡ length (cells sheet.universe) = omega (arith, end, (cells_are_numbered sheet.universe).count) in
    let seen : view (Array c.loop-cell.list) ≡ array_of (map view c.loop-cell.list.items) = search (rules, the_lemmas) in
    seen ∙ ap array_of (c.loop-cell.invariant reason is ∙ ap (λ n. map (cell_data sheet reason) (cells_below n)) whole)
