use Rattle.std.proofs.Common.{◌≡◌, ◌<◌, ℕ, List, [], All, length, ap, sym, subst, ◌∙◌, arith}
use Rattle.std.proofs.lemmas.List.{length_push}
use Rattle.pc_kept.specs.Stored.{AreKeptStored}
use Rattle.pc_kept.proofs.ByParts.{all_row, each_more, zip_of}
use Rattle.pc_kept.proofs.OneStep.{room_same}
use Rattle.pc_kept.proofs.components.kept_rows.Goals as goal

pub kept_axioms-requires-clause-values : goal.kept_axioms-requires-clause-values
kept_axioms-requires-clause-values c = room_same _ _ c.args.stored.store.now (sym c.loop-i.invariant.values) c.requires.values

pub kept_axioms-requires-clause-constants : goal.kept_axioms-requires-clause-constants
kept_axioms-requires-clause-constants c = room_same _ _ c.args.stored.store.now (sym c.loop-i.invariant.constants) c.requires.constants

pub kept_axioms-requires-clause-named : goal.kept_axioms-requires-clause-named
kept_axioms-requires-clause-named c = room_same _ _ c.args.stored.store.now (sym c.loop-i.invariant.named) c.requires.named

pub kept_axioms-requires-clause-within : goal.kept_axioms-requires-clause-within
kept_axioms-requires-clause-within c =
    subst (All (λ k. k < length c.args.stored.store.now)) (sym (c.deref.ensures.value ∙ c.in_ok-used.ensures)) (all_row (All (λ k. k < length c.args.stored.store.now)) c.args.whole.now.axioms c.loop-i.i _ c.part.ensures.axioms c.requires.within)

pub loop-i-preserved : goal.loop-i-preserved
loop-i-preserved c =
    let l = c.loop-i in
    let P : List ℕ → List ℕ → Type 0 = λ us row. AreKeptStored c.args.stored.pairs c.args.stored.store.now c.args.stored.names.now [] us row in
    let kept = subst (P c.part.result.axioms.now) (sym c.deref-in-loop-i.ensures.value) (subst (λ us. P us c.in_ok-kept.kept.items) (c.deref.ensures.value ∙ c.in_ok-used.ensures) c.in_ok-kept.ensures.kept) in
    record {
      count = omega (arith, l.invariant.count, length_push l.rows c.deref-in-loop-i.result.now, ap length c.in_ok-push.ensures.ok);
      each = each_more P c.args.whole.now.axioms l.rows _ l.i _ _ l.invariant.count c.part.ensures.axioms kept c.in_ok-push.ensures.ok l.invariant.each;
      values = c.kept_axioms.ensures.values ∙ l.invariant.values;
      constants = c.kept_axioms.ensures.constants ∙ l.invariant.constants;
      named = c.kept_axioms.ensures.named ∙ l.invariant.named;
    }

pub returns : goal.returns
returns c =
    let l = c.loop-i in
    let all : l.i ≡ length c.args.whole.now.cells = omega (arith, c.loop-i-test.false, l.auto.i-end, c.len-i-end.ensures) in
    zip_of (AreKeptStored c.args.stored.pairs c.args.stored.store.now c.args.stored.names.now []) [] c.args.whole.now.axioms l.rows (omega (arith, l.invariant.count, all, c.requires.many))
    (λ j us below at. l.invariant.each j us (omega (arith, below, all, c.requires.many)) at)
