use Rattle.std.proofs.Common.{◌≡◌, ℕ, List, Some, slice_get, Contains, arith, ◌∙◌}
use Rattle.std.proofs.lemmas.Option.{slice_get_within, slice_get-get_or}
use Rattle.pc_lits.specs.declared.literal.Lit.{Lit}
use Rattle.pc_components.proofs.PartFor.{contains_slice}
use Rattle.pc_kept.specs.Stored.{IsOwnStored}
use Rattle.pc_kept.specs.inside.Signs.{IsSigned}
use Rattle.pc_kept.proofs.OneMore.{one_item}
use Rattle.pc_kept.proofs.polarity.Polarity.name_all.Goals as goal

pub loop-i-preserved : goal.loop-i-preserved
loop-i-preserved c =
    let l = c.loop-i in
    let P : ℕ → Type 0 = λ k. (clause : List Lit) (m : Lit) → slice_get c.args.stored.store.now k ≡ Some clause → Contains clause m → (¬ IsOwnStored c.args.stored.names.now k m.variable.0) → IsSigned c.name_others.new.self.yes c.name_others.new.self.no m in
    record {
      each = one_item P c.args.kept.now l.i _ (slice_get-get_or c.args.kept.now l.i 0 c.loop-i-test.true) c.name_others.ensures.each
          (λ j k below at clause m clause_at has other. c.name_others.ensures.kept m (l.invariant.each j k below at clause m clause_at has other));
      kept = λ m h. c.name_others.ensures.kept m (l.invariant.kept m h);
      yes = c.name_others.ensures.yes ∙ l.invariant.yes;
      no = c.name_others.ensures.no ∙ l.invariant.no;
      banned = c.name_others.ensures.banned ∙ l.invariant.banned;
    }

pub returns-clause-each : goal.returns-clause-each
returns-clause-each c = λ m (k, clause, k_in, at, has, other).
    let j = contains_slice c.args.kept.now k k_in in
    let below = slice_get_within c.args.kept.now j.0 k j.1 in
    c.loop-i.invariant.each j.0 k (omega (arith, below, c.loop-i-test.false, c.loop-i.auto.i-end)) j.1 clause m at has other
