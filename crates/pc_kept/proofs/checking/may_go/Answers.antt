use Rattle.std.proofs.Common.{inr, ◌⊎◌}
use Rattle.std.proofs.lemmas.Bool.{OnTrue_at, OnTrue_from}
use Rattle.pc_kept.specs.inside.Checks.{HasTrue, NoneIsNamed, HasConstant}
use Rattle.pc_kept.proofs.checking.may_go.Goals as goal

pub returns : goal.returns
returns c = OnTrue_from c.has_constant.result (HasTrue c.args.values.now c.args.clause.now ⊎ (NoneIsNamed c.args.pairs c.args.named.now c.args.clause.now ⊎ HasConstant c.args.pairs c.args.constants.now c.args.named.now c.args.clause.now)) (λ yes. inr (inr (OnTrue_at yes c.has_constant.ensures)))
