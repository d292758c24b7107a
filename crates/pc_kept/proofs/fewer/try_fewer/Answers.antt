use Rattle.std.proofs.Common.{length, subst, ◌∙◌}
use Rattle.std.proofs.lemmas.Bool.{OnTrue_at}
use Rattle.pc_kept.specs.inside.Checks.{AreRight, AreNamed}
use Rattle.pc_kept.proofs.MarkedLemmas.{marked_within, polar_kept}
use Rattle.pc_kept.proofs.fewer.try_fewer.Goals as goal

pub look_at-requires-clause-within : goal.look_at-requires-clause-within
look_at-requires-clause-within c = marked_within (length c.args.stored.store.now) c.args.used.now c.args.marks.now c.deref.result.now (c.deref.ensures.value ∙ c.in_ok-kept.ensures) c.requires.within

pub returns-then-may_all_go-clause-kept : goal.returns-then-may_all_go-clause-kept
returns-then-may_all_go-clause-kept c =
    polar_kept c.args.stored.pairs c.args.stored.store.now c.args.stored.names.now _ _ _ _ c.args.used.now c.args.marks.now c.in_ok-kept.kept.items c.in_ok-kept.ensures
    (subst (λ ks. AreRight c.args.stored.store.now ks c.look_at.new.values) c.deref.ensures.value c.look_at.ensures.right)
    (subst (λ ks. AreNamed c.args.stored.store.now ks c.look_at.new.named) c.deref.ensures.value c.look_at.ensures.named)
    c.requires.right (OnTrue_at c.if-may_all_go.true c.may_all_go.ensures)
