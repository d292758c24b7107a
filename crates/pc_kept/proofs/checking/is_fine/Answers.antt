use Rattle.std.proofs.Common.{sym, ◌∙◌, subst, ◌⊎◌}
use Rattle.std.proofs.lemmas.Bool.{OnTrue_at, OnTrue_from}
use Rattle.pc_kept.specs.inside.Checks.{HasTrue, NoneIsNamed, HasConstant, IsFine}
use Rattle.pc_kept.proofs.OneStep.{same_of}
use Rattle.pc_kept.proofs.checking.is_fine.Goals as goal

pub returns : goal.returns
returns c = OnTrue_from c.may_go.result (IsFine c.args.stored.pairs c.args.stored.store.now c.args.stored.names.now.axioms c.args.trial.now.values c.args.constants.now c.args.trial.now.named c.args.number) (λ yes. record {
  of_node = OnTrue_at c.if-not-is_of_node.false c.is_of_node.ensures;
  why = λ clause at. subst (λ d. HasTrue c.args.trial.now.values d ⊎ (NoneIsNamed c.args.stored.pairs c.args.trial.now.named d ⊎ HasConstant c.args.stored.pairs c.args.constants.now c.args.trial.now.named d)) (same_of (sym c.get-clause.ensures ∙ at)) (OnTrue_at yes c.may_go.ensures);
})
