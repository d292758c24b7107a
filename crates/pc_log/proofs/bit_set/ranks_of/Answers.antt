use Rattle.std.proofs.Common.{ℕ, List, [], ◌∷◌, ◌++◌, ap, ◌∙◌}
use Rattle.pc_log.proofs.PlaceLemmas.{count_first, ranks_first}
use Rattle.pc_log.proofs.bit_set.ranks_of.Goals as goal

pub loop-at-init : goal.loop-at-init
loop-at-init c = (count_first c.args.words.now, ranks_first c.args.words.now c.push.new.self.items (c.in_ok-push.ensures.items ∙ ap (λ (rs : List ℕ). rs ++ 0 ∷ []) c.in_ok-ranks.ensures.items))
