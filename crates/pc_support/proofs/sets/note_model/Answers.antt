use Rattle.std.proofs.Common.{◌∙◌}
use Rattle.pc_support.proofs.SetLemmas.{models_more}
use Rattle.pc_support.proofs.sets.note_model.Goals as goal

pub returns : goal.returns
returns c sizes entries placed before =
    models_more entries c.args.worlds.now c.args.target c.args.placed.now.models c.args.models.now c.push.new.self c.args.world c.values.result.now c.model.result.now c.in_ok-model.model c.requires.world
    (c.values.ensures ∙ c.shown.ensures.exact) c.model.ensures c.in_ok-model.ensures c.in_ok-push.ensures (λ has. let is = c.has_target.ensures.1 has in let isnt = c.if-has_target.false in (cc)) placed.models before
