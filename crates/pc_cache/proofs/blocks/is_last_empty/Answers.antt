use Rattle.std.proofs.Common.{sym, ◌∙◌, arith}
use Rattle.pc_cache.proofs.LastLemmas.{last_is, none_last}
use Rattle.pc_cache.proofs.blocks.is_last_empty.Goals as goal

pub returns-then-count-eq0 : goal.returns-then-count-eq0
returns-then-count-eq0 c = λ yes. none_last c.args.blocks.now (omega arith)

pub returns : goal.returns
returns c = λ yes. sym (last_is c.args.blocks.now _ (omega arith)) ∙ c.is_free.ensures.empty yes
