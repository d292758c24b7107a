use Rattle.std.proofs.Common.{ap, ◌∙◌, set, None}
use Rattle.pc_lits.proofs.StampLemmas.{shown-set, stale_value}
use Rattle.pc_lits.proofs.values.Values.forget.Goals as goal

pub returns : goal.returns
returns c =
    shown-set c.self.inside.present c.self.inside.cells.items c.args.variable.0 _ None (stale_value c.self.inside.present _ c.self.invariant.started)
    ∙ ap (λ values. set values c.args.variable.0 None) c.self.view_is
