use Rattle.std.proofs.Common.{◌++◌, ◌∷◌, [], ap, sym, ◌∙◌}
use Rattle.pc_axiom_names.proofs.Fewer.{taken}
use Rattle.pc_axiom_names.proofs.kept.copied_rows.Goals as goal

pub loop-i-preserved : goal.loop-i-preserved
loop-i-preserved c = c.in_ok-push.ensures.ok ∙ ap (λ rs. rs ++ c.get.result.now ∷ []) c.loop-i.invariant ∙ sym (taken c.args.rows.now c.loop-i.i c.get.result.now c.get.ensures)
