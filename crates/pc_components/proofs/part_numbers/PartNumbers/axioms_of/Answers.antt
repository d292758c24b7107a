use Rattle.std.proofs.Common.{ap, length, map, subst, sym, ◌∙◌, ◌≡◌}
use Rattle.std.proofs.lemmas.Result.{IfOk-weaker}
use Rattle.pc_parts.specs.Components.{labels_of}
use Rattle.pc_parts.specs.PartSheets.{is_among}
use Rattle.pc_ground.specs.GroundView.{Grounded}
use Rattle.pc_components.specs.inside.Marks.{places_marked}
use Rattle.pc_components.specs.inside.Owners.{owners_by}
use Rattle.pc_components.specs.inside.Spans.{row_of, AreWithin}
use Rattle.pc_components.specs.inside.Turned.{places_from}
use Rattle.pc_components.proofs.MarksRight.{rows_marked, spans_marked}
use Rattle.pc_components.proofs.PartNumbersRight.{spans_within, owners_right}
use Rattle.pc_components.proofs.part_numbers.PartNumbers.axioms_of.Goals as goal

pub marks_of_spans-requires : goal.marks_of_spans-requires
marks_of_spans-requires c =
    let self = c.args.self.now in
    let numbers = c.deref.ensures.value ∙ c.in_ok-numbers.ensures in
    subst (AreWithin (length c.deref.result.now)) (sym (c.owners.ensures ∙ ap (λ (g : Grounded). g.owners) c.requires.ground))
    (spans_within c.args.book.now self.parts self.cells.items self.pieces.items c.requires.numbers c.deref.result.now numbers)

pub returns : goal.returns
returns c =
    let self = c.args.self.now in
    let book = c.args.book.now in
    let number = c.args.number in
    let ns = c.deref.result.now in
    let numbers = c.deref.ensures.value ∙ c.in_ok-numbers.ensures in
    let spans = c.owners.ensures ∙ ap (λ (g : Grounded). g.owners) c.requires.ground in
    let rows = ap (map (row_of ns)) spans ∙ owners_right book self.parts self.cells.items self.pieces.items c.requires.numbers ns numbers in
    let marks = c.deref-2.ensures.value ∙ c.in_ok-marks.ensures ∙ spans_marked number ns c.owners.result.now ∙ ap (map (λ row. is_among row number)) rows in
    IfOk-weaker c.marked_places.result (λ places. places.items ≡ places_marked 0 c.deref-2.result.now) (λ axioms. axioms.items ≡ places_from 0 (owners_by book (labels_of book)) number)
    (λ places so. so ∙ ap (places_marked 0) marks ∙ rows_marked 0 number (owners_by book (labels_of book)))
    c.marked_places.ensures
