use Rattle.std.proofs.Common.{◌∙◌}
use Rattle.std.proofs.lemmas.Result.{on_ok_weaker}
use Rattle.pc_support.proofs.SetLemmas.{live_lacks, live_adds}
use Rattle.pc_support.proofs.sets.Live.look.Goals as goal

pub returns-then-not-has_target : goal.returns-then-not-has_target
returns-then-not-has_target c sizes entries placed =
    live_lacks entries c.args.worlds.now c.args.target c.args.world c.args.self.now c.values.result.now c.requires.world (c.values.ensures ∙ c.shown.ensures.exact) (λ has. let is = c.has_target.ensures.1 has in let isnt = c.if-not-has_target.true in (cc))

pub returns : goal.returns
returns c =
    on_ok_weaker c.add.result (λ adds sizes entries placed. live_adds entries c.args.worlds.now c.args.target c.args.world c.args.placed.now.sets c.args.self.now c.add.new.self c.requires.world placed.sets adds) c.add.ensures
