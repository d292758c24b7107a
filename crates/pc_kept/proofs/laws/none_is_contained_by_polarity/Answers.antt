use Rattle.pc_kept.proofs.NoneContained.{none_is_contained_by_polarity}
use Rattle.pc_kept.proofs.laws.none_is_contained_by_polarity.Goals as goal

pub returns : goal.returns
returns c = none_is_contained_by_polarity
