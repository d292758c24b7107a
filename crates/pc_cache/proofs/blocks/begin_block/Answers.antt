use Rattle.std.proofs.Common.{refl, sym, ap, ◌∙◌}
use Rattle.pc_cache.specs.inside.Patched.{last_in, settled_in}
use Rattle.pc_cache.proofs.LastLemmas.{last_push, settled_all, settled_push}
use Rattle.pc_cache.proofs.blocks.begin_block.Goals as goal

pub returns-in-true-clause-settled : goal.returns-in-true-clause-settled
returns-in-true-clause-settled c = settled_all c.args.blocks.now.items (ap last_in (sym c.deref.ensures.value) ∙ c.in-true.ensures refl)

pub returns-in_ok-push-in-false-clause-last : goal.returns-in_ok-push-in-false-clause-last
returns-in_ok-push-in-false-clause-last c = ap last_in c.in_ok-push-in-false.ensures.items ∙ last_push c.args.blocks.now.items c.new.result ∙ c.new.ensures

pub returns-in_ok-push-in-false-clause-settled : goal.returns-in_ok-push-in-false-clause-settled
returns-in_ok-push-in-false-clause-settled c = ap settled_in c.in_ok-push-in-false.ensures.items ∙ settled_push c.args.blocks.now.items c.new.result
