use Rattle.std.proofs.Common.{refl, ap}
use Rattle.pc_support.specs.inside.Kept.{truths}
use Rattle.pc_support.proofs.KeptLemmas.{kept_none, places_none}
use Rattle.pc_support.proofs.seen.Seen.new.Goals as goal

pub invariant_of-result : goal.invariant_of-result
invariant_of-result c = kept_none c.args.watched.now _ c.new.ensures.items refl (places_none c.args.watched.now c.new-2.result.items c.new-3.result.items c.new-2.ensures.items)

pub returns-clause-rows : goal.returns-clause-rows
returns-clause-rows c = ap truths c.new.ensures.items
