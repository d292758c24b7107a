use Rattle.std.proofs.Common.{◌≡◌, ◌==◌, ap, map, ◌∙◌}
use Rattle.std.proofs.lemmas.Result.{IfOk-weaker}
use Rattle.pc_components.specs.inside.Marks.{places_marked}
use Rattle.pc_components.specs.inside.Numbers.{alone}
use Rattle.pc_components.specs.inside.Turned.{places_from}
use Rattle.pc_components.proofs.MarksRight.{numbers_marked, rows_marked}
use Rattle.pc_components.proofs.part_numbers.PartNumbers.cells_of.Goals as goal

pub returns : goal.returns
returns c =
    let own = c.args.self.now.cells.items in
    let number = c.args.number in
    IfOk-weaker c.marked_places.result (λ places. places.items ≡ places_marked 0 c.deref-2.result.now) (λ cells. cells.items ≡ places_from 0 (map alone own) number)
    (λ places so.
    so ∙ ap (places_marked 0) (c.deref-2.ensures.value ∙ c.in_ok-marks.ensures ∙ ap (map (λ n. n == number)) c.deref.ensures.value ∙ numbers_marked number own) ∙ rows_marked 0 number (map alone own))
    c.marked_places.ensures
