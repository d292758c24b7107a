use Rattle.std.proofs.Common.{ap, ◌∙◌, set, Some, refl}
use Rattle.pc_lits.proofs.StampLemmas.{shown-set, fresh_value}
use Rattle.pc_lits.proofs.values.Values.assign.Goals as goal

pub returns : goal.returns
returns c =
    shown-set c.self.inside.present c.self.inside.cells.items c.args.lit.variable.0 _ (Some c.args.lit.sign) (fresh_value c.self.inside.present _ refl)
    ∙ ap (λ values. set values c.args.lit.variable.0 (Some c.args.lit.sign)) c.self.view_is
