use Rattle.std.proofs.Common.{◌∙◌, ◌<◌, length, arith, get_or}
use Rattle.std.proofs.lemmas.List.{get_or_default}
use Rattle.std.proofs.lemmas.List.Elements.{Contains-get_or}
use Rattle.pc_log.proofs.ReachLemmas.{seen_first, see_next, reached_few, found_all}
use Rattle.pc_log.proofs.trimming.search.Goals as goal

pub loop-next-init : goal.loop-next-init
loop-next-init c = seen_first c.args.log.now c.args.last.0 c.reach.new.reached.items c.reach.new.slots (rw c.clear.ensures.items at c.in_ok-reach.ensures)

pub hints_at-requires : goal.hints_at-requires
hints_at-requires c =
    let within : c.loop-next.next < length c.loop-next.reached.items = omega (arith, c.loop-next-test.true, c.len.ensures, c.loop-next.reached.ok.0) in
    let read = c.index-place.ensures ∙ get_or_default c.loop-next.reached.items c.loop-next.next _ 0 within in
    omega (arith, read, c.requires.within, c.loop-next.invariant.up_to (get_or c.loop-next.reached.items c.loop-next.next 0) (Contains-get_or c.loop-next.reached.items c.loop-next.next 0 within))

pub loop-next-smaller : goal.loop-next-smaller
loop-next-smaller c =
    omega (arith, c.reach_hints.auto.slots, c.loop-next-test.true, c.len.ensures, c.loop-next.reached.ok.0, reached_few c.loop-next.reached.items c.loop-next.slots c.loop-next.invariant.slotted)

pub loop-next-preserved : goal.loop-next-preserved
loop-next-preserved c =
    let within : c.loop-next.next < length c.loop-next.reached.items = omega (arith, c.loop-next-test.true, c.len.ensures, c.loop-next.reached.ok.0) in
    let read = c.index-place.ensures ∙ get_or_default c.loop-next.reached.items c.loop-next.next _ 0 within in
    see_next c.args.log.now c.args.last.0 c.loop-next.next c.index-place.result.now c.loop-next.reached.items c.loop-next.slots c.reach_hints.new.reached.items c.reach_hints.new.slots c.hints_at.result.now
    c.loop-next.invariant within read c.hints_at.ensures.hints c.hints_at.ensures.earlier c.in_ok-reach_hints.ensures

pub returns : goal.returns
returns c =
    found_all c.args.log.now c.args.last.0 c.loop-next.next c.loop-next.reached.items c.loop-next.slots c.loop-next.invariant
    (omega (arith, c.loop-next-test.false, c.len.ensures, c.loop-next.reached.ok.0))
