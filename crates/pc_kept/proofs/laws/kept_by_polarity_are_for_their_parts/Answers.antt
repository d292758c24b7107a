use Rattle.pc_kept.proofs.KeptFor.{kept_by_polarity_are_for_their_parts}
use Rattle.pc_kept.proofs.laws.kept_by_polarity_are_for_their_parts.Goals as goal

pub returns : goal.returns
returns c = kept_by_polarity_are_for_their_parts
