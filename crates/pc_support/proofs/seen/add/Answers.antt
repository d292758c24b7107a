use Rattle.std.proofs.Common.{refl, inr}
use Rattle.pc_support.proofs.KeptLemmas.{counted_more}
use Rattle.pc_support.proofs.seen.add.Goals as goal

pub returns-clause-counted : goal.returns-clause-counted
returns-clause-counted c = counted_more c.args.kept.now _ c.args.row c.args.count c.requires.counted c.requires.count c.requires.many c.requires.items c.in_ok-push.ensures.items refl

pub returns-clause-rows : goal.returns-clause-rows
returns-clause-rows c = inr c.in_ok-push.ensures.items
