use Rattle.std.proofs.Common.{◌≡◌, ◌<◌, ℕ, List, [], All, get_or, length, ap, sym, subst, ◌∙◌, arith}
use Rattle.std.proofs.lemmas.List.{length_push}
use Rattle.pc_kept.specs.Stored.{AreKeptStored}
use Rattle.pc_kept.proofs.ByParts.{all_row, each_more, zip_of}
use Rattle.pc_kept.proofs.MarkedLemmas.{more_banned}
use Rattle.pc_kept.proofs.components.polar_rows.Goals as goal

pub polar_axioms-requires-clause-within : goal.polar_axioms-requires-clause-within
polar_axioms-requires-clause-within c =
    subst (All (λ k. k < length c.args.stored.store.now)) (sym (c.deref.ensures.value ∙ c.in_ok-used.ensures)) (all_row (All (λ k. k < length c.args.stored.store.now)) c.args.whole.now.axioms c.loop-i.i _ c.part.ensures.axioms c.requires.within)

pub loop-i-preserved : goal.loop-i-preserved
loop-i-preserved c =
    let l = c.loop-i in
    let now = c.polar_axioms.new.polarity.banned in
    let P : List ℕ → List ℕ → Type 0 = λ us row. AreKeptStored c.args.stored.pairs c.args.stored.store.now c.args.stored.names.now now us row in
    let kept = subst (P c.part.result.axioms.now) (sym c.deref-in-loop-i.ensures.value) (subst (λ us. P us c.in_ok-taken.taken.items) (c.deref.ensures.value ∙ c.in_ok-used.ensures) c.in_ok-taken.ensures.kept) in
    record {
      count = omega (arith, l.invariant.count, length_push l.rows c.deref-in-loop-i.result.now, ap length c.in_ok-push.ensures.ok);
      each = each_more P c.args.whole.now.axioms l.rows _ l.i _ _ l.invariant.count c.part.ensures.axioms kept c.in_ok-push.ensures.ok
          (λ j us below at. more_banned c.args.stored.pairs c.args.stored.store.now c.args.stored.names.now l.polarity.banned now us (get_or l.rows j []) c.polar_axioms.ensures.more (l.invariant.each j us below at));
      values = c.polar_axioms.ensures.values ∙ l.invariant.values;
      constants = c.polar_axioms.ensures.constants ∙ l.invariant.constants;
      named = c.polar_axioms.ensures.named ∙ l.invariant.named;
      yes = c.polar_axioms.ensures.yes ∙ l.invariant.yes;
      no = c.polar_axioms.ensures.no ∙ l.invariant.no;
      banned = c.polar_axioms.ensures.banned ∙ l.invariant.banned;
    }

pub returns-clause-kept : goal.returns-clause-kept
returns-clause-kept c =
    let l = c.loop-i in
    let all : l.i ≡ length c.args.whole.now.cells = omega (arith, c.loop-i-test.false, l.auto.i-end, c.len-i-end.ensures) in
    zip_of (AreKeptStored c.args.stored.pairs c.args.stored.store.now c.args.stored.names.now l.polarity.banned) [] c.args.whole.now.axioms l.rows (omega (arith, l.invariant.count, all, c.requires.many))
    (λ j us below at. l.invariant.each j us (omega (arith, below, all, c.requires.many)) at)
