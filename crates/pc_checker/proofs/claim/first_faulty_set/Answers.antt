use Rattle.std.proofs.Common.{subst}
use Rattle.pc_cert.specs.Views.{set_of}
use Rattle.pc_checker.specs.Verdicts.{SetStands}
use Rattle.pc_checker.specs.inside.Parts.{BarredBy, IsOneSetFault}
use Rattle.pc_checker.proofs.ClaimVerdict.{none_from}
use Rattle.pc_checker.proofs.SetLemmas.{one_prepared, all_sets, first_set, more_sets}
use Rattle.pc_checker.proofs.claim.first_faulty_set.Goals as goal

pub fault_of_set-requires : goal.fault_of_set-requires
fault_of_set-requires c =
    one_prepared c.args.book.now c.args.sets.now c.args.entered.now c.args.assigned.now c.requires c.loop-place.place c.index-sets-place.result c.index-assigned-place.result c.loop-place-test.true c.index-sets-place.is c.index-assigned-place.is

pub returns-in-Some : goal.returns-in-Some
returns-in-Some c =
    let B = BarredBy c.args.barred in
    let s = set_of c.index-sets-place.result in
    let at = subst (IsOneSetFault c.args.book.now B s) c.in-Some.is c.fault_of_set.ensures in
    (s, first_set (SetStands c.args.book.now B) c.args.sets.now c.loop-place.place c.index-sets-place.result c.loop-place-test.true c.index-sets-place.is c.loop-place.invariant at.0, at.1)

pub loop-place-preserved : goal.loop-place-preserved
loop-place-preserved c =
    let B = BarredBy c.args.barred in
    let at = subst (IsOneSetFault c.args.book.now B (set_of c.index-sets-place.result)) (none_from c.fault_of_set.result c.in_default.not-Some) c.fault_of_set.ensures in
    more_sets (SetStands c.args.book.now B) c.args.sets.now c.loop-place.place c.index-sets-place.result c.loop-place-test.true c.index-sets-place.is c.loop-place.invariant at

pub returns : goal.returns
returns c = all_sets (SetStands c.args.book.now (BarredBy c.args.barred)) c.args.sets.now c.loop-place.place c.loop-place-test.false c.loop-place.invariant
