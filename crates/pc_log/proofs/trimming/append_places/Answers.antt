use Rattle.std.proofs.Common.{get_or, refl, arith}
use Rattle.std.proofs.lemmas.List.{length-set}
use Rattle.std.proofs.lemmas.List.Elements.{Contains-get_or}
use Rattle.pc_log.specs.Shown.{shown_line}
use Rattle.pc_log.proofs.AppendLemmas.{hints_are_placed, append_more}
use Rattle.pc_log.proofs.trimming.append_places.Goals as goal

pub prove-unreachable-requires : goal.prove-unreachable-requires
prove-unreachable-requires c =
    let here = c.requires.rested.2.up_to _ (Contains-get_or c.args.places.now c.loop-place.place-index 0 c.loop-place-test.true) in
    absurd (omega (arith, c.if-prove.true, here, c.requires.rested.1, c.requires.room, c.loop-place.auto.slots))

pub hints_at-requires : goal.hints_at-requires
hints_at-requires c =
    let here = c.requires.rested.2.up_to _ (Contains-get_or c.args.places.now c.loop-place.place-index 0 c.loop-place-test.true) in
    omega (arith, here, c.requires.rested.1)

pub renumber-requires : goal.renumber-requires
renumber-requires c = λ k d low.
    let here = c.requires.rested.2.up_to _ (Contains-get_or c.args.places.now c.loop-place.place-index 0 c.loop-place-test.true) in
    omega (
      arith,
      here,
      c.requires.rested.1,
      c.requires.room,
      c.loop-place.auto.slots,
      c.hints_at.ensures.earlier k d low,
      length-set c.loop-place.slots (get_or c.args.places.now c.loop-place.place-index 0) c.count.result,
    )

pub line-requires : goal.line-requires
line-requires c =
    let here = c.requires.rested.2.up_to _ (Contains-get_or c.args.places.now c.loop-place.place-index 0 c.loop-place-test.true) in
    omega (arith, here, c.requires.rested.1)

pub append_line-requires : goal.append_line-requires
append_line-requires c =
    let place = get_or c.args.places.now c.loop-place.place-index 0 in
    let here = c.requires.rested.2.up_to place (Contains-get_or c.args.places.now c.loop-place.place-index 0 c.loop-place-test.true) in
    rw (c.deref.ensures.value, c.in_ok-renumber.ensures, c.count.ensures)
    (hints_are_placed c.args.log.now c.requires.rested.0 c.args.places.now c.args.into.now c.loop-place.place-index c.loop-place.slots c.loop-place.into place c.hints_at.result.now c.requires.rested.2
    c.loop-place.invariant c.loop-place-test.true refl (omega (arith, here, c.requires.rested.1, c.requires.room, c.loop-place.auto.slots)) c.hints_at.ensures.hints c.hints_at.ensures.earlier)

pub loop-place-preserved : goal.loop-place-preserved
loop-place-preserved c =
    let place = get_or c.args.places.now c.loop-place.place-index 0 in
    let here = c.requires.rested.2.up_to place (Contains-get_or c.args.places.now c.loop-place.place-index 0 c.loop-place-test.true) in
    let grown = rw (c.deref.ensures.value, c.in_ok-renumber.ensures, c.count.ensures) at c.in_ok-append_line.ensures.ok in
    rw c.count.ensures
    (append_more c.args.log.now c.requires.rested.0 c.args.places.now c.args.into.now c.loop-place.place-index c.loop-place.slots c.loop-place.into place c.hints_at.result.now c.requires.rested.2
    c.loop-place.invariant c.loop-place-test.true refl (omega (arith, here, c.requires.rested.1, c.requires.room, c.loop-place.auto.slots)) c.hints_at.ensures.hints c.hints_at.ensures.earlier
    (shown_line c.line.result) c.append_line.new.into c.line.ensures.line grown)
