use Rattle.std.proofs.Common.{◌≡◌, length, arith, sym, subst}
use Rattle.pc_checker.specs.Made.{AreFirstApart}
use Rattle.pc_checker.specs.inside.Alike.{IsSetKey}
use Rattle.pc_checker.proofs.AlikeLemmas.{are_first_apart, is_key, keyed_more, none_keyed}
use Rattle.pc_checker.proofs.alike.apart_by_keys.Goals as goal

pub loop-place-init : goal.loop-place-init
loop-place-init c = none_keyed c.args.sets.now c.args.size c.new-names.result c.new-names.ensures

pub joins-requires : goal.joins-requires
joins-requires c = is_key c.deref.result.now c.deref-in-loop-place.result.now (subst (IsSetKey c.deref.result.now) (sym c.deref-in-loop-place.ensures.value) c.in_ok-key.ensures)

pub returns-then-not-branch : goal.returns-then-not-branch
returns-then-not-branch c = are_first_apart c.args.sets.now c.args.size c.loop-place.place c.loop-place.names (omega (arith, c.loop-place-test.true)) c.loop-place.invariant

pub loop-place-preserved : goal.loop-place-preserved
loop-place-preserved c =
    let s = c.index-sets-place.result in
    let key = c.deref-in-loop-place.result.now in
    let is_key : IsSetKey c.deref.result.now key = subst (IsSetKey c.deref.result.now) (sym c.deref-in-loop-place.ensures.value) c.in_ok-key.ensures in
    let joined = c.in_ok-joins.ensures c.if-not-branch.false in
    keyed_more c.args.sets.now c.args.size c.loop-place.place s key c.loop-place.names c.joins.new.names c.loop-place-test.true c.index-sets-place.is
    (subst (λ us. IsSetKey us key) c.deref.ensures.value is_key) joined.0 joined.1 joined.2 c.loop-place.invariant

pub returns : goal.returns
returns c =
    let all : c.loop-place.place ≡ length c.args.sets.now = omega (arith, c.loop-place-test.false, c.loop-place.auto.place-end) in
    subst (AreFirstApart c.args.sets.now) all
    (are_first_apart c.args.sets.now c.args.size c.loop-place.place c.loop-place.names (omega (arith, all)) c.loop-place.invariant)
