use Rattle.pc_checker.proofs.AlikeLemmas.{set_places}
use Rattle.pc_checker.proofs.alike.sorted_places.Goals as goal

pub returns : goal.returns
returns c = set_places _ _ _ c.sort_unique.ensures.rise c.in_ok-places.ensures c.sort_unique.ensures.keeps c.sort_unique.ensures.adds_none
