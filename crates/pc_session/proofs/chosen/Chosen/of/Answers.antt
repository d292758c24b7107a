use Rattle.std.proofs.Common.{◌≡◌, length, arith, ap, ◌∙◌}
use Rattle.pc_session.specs.inside.Chosen.{places_of}
use Rattle.pc_session.proofs.chosen.Chosen.of.Goals as goal

pub invariant_of-result : goal.invariant_of-result
invariant_of-result c =
    let told = c.gather-count.ensures in
    let same : length c.in_ok-numbers.numbers.items ≡ length c.args.marks.items = omega (arith, c.in_ok-numbers.ensures.len) in
    (told.long ∙ same, told.few, told.places ∙ ap places_of c.deref.ensures.value)
