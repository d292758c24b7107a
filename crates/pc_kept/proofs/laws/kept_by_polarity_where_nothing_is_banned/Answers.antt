use Rattle.pc_kept.proofs.NoneContained.{kept_by_polarity_are_kept, kept_are_by_polarity}
use Rattle.pc_kept.proofs.laws.kept_by_polarity_where_nothing_is_banned.Goals as goal

pub returns-clause-kept : goal.returns-clause-kept
returns-clause-kept c = kept_by_polarity_are_kept

pub returns-clause-by_polarity : goal.returns-clause-by_polarity
returns-clause-by_polarity c = kept_are_by_polarity
