use Rattle.pc_checker.proofs.AlikeLemmas.{set_key}
use Rattle.pc_checker.proofs.alike.key_of.Goals as goal

pub returns : goal.returns
returns c = set_key _ _ _ _ c.in_ok-key.ensures c.deref.ensures.value c.in_ok-places.ensures
