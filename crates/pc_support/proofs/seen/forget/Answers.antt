use Rattle.std.proofs.Common.{refl}
use Rattle.pc_support.proofs.KeptLemmas.{counted_none}
use Rattle.pc_support.proofs.seen.forget.Goals as goal

pub returns-clause-counted : goal.returns-clause-counted
returns-clause-counted c = counted_none _ c.clear.ensures.items refl
