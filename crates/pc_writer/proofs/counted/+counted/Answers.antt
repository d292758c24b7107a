use Rattle.std.proofs.Common.{◌∙◌, ap, sym}
use Rattle.std.specs.List.{list_any}
use Rattle.std.proofs.lemmas.List.{take_all}
use Rattle.std.proofs.lemmas.List.Folds.{list_any_at}
use Rattle.pc_writer.proofs.CountedLemmas.{counts, parts_as_any}
use Rattle.pc_writer.proofs.counted.+counted.Goals as goal

pub have_count-returns-then-has_count : goal.have_count-returns-then-has_count
have_count-returns-then-has_count t c =
    let parts = c.args.parts.now in
    let is = ap counts (sym c.part-item.is) ∙ sym c.has_count.ensures ∙ c.if-has_count.true in
    sym (parts_as_any parts ∙ list_any_at counts parts c.loop-part.part-index c.part-item.result c.loop-part-test.true is)

pub have_count-returns : goal.have_count-returns
have_count-returns t c =
    let parts = c.args.parts.now in
    sym (parts_as_any parts ∙ ap (list_any counts) (sym (take_all c.loop-part.part-index parts c.loop-part-test.false)) ∙ c.loop-part.invariant)
