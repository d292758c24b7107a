use Rattle.std.proofs.Common.{length, subst, sym, ◌∙◌}
use Rattle.std.proofs.lemmas.Bool.{OnTrue_at}
use Rattle.pc_kept.specs.inside.Checks.{AreRight, AreNamed, AreFine}
use Rattle.pc_kept.proofs.MarkedLemmas.{marked_within, fine_kept}
use Rattle.pc_kept.proofs.keeping.try_marks.Goals as goal

pub look_at-requires-clause-within : goal.look_at-requires-clause-within
look_at-requires-clause-within c = marked_within (length c.args.stored.store.now) c.args.used.now c.deref.result.now c.deref-2.result.now (c.deref-2.ensures.value ∙ c.in_ok-kept.ensures) c.requires.within

pub returns-then-are_fine-clause-kept : goal.returns-then-are_fine-clause-kept
returns-then-are_fine-clause-kept c =
    fine_kept c.args.stored.pairs c.args.stored.store.now c.args.stored.names.now _ _ _ c.args.used.now c.deref.result.now c.in_ok-kept.kept.items c.in_ok-kept.ensures
    (subst (λ ks. AreRight c.args.stored.store.now ks c.look_at.new.values) c.deref-2.ensures.value c.look_at.ensures.right)
    (subst (λ ks. AreNamed c.args.stored.store.now ks c.look_at.new.named) c.deref-2.ensures.value c.look_at.ensures.named)
    c.requires.right
    (subst (AreFine c.args.stored.pairs c.args.stored.store.now c.args.stored.names.now.axioms c.look_at.new.values c.args.constants.now c.look_at.new.named c.args.used.now) (c.deref-3.ensures.value ∙ sym c.deref.ensures.value) (OnTrue_at c.if-are_fine.true c.are_fine.ensures))
