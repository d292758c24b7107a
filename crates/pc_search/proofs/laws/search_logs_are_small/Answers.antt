use Rattle.pc_search.proofs.Small.{search_logs_are_small}
use Rattle.pc_search.proofs.laws.search_logs_are_small.Goals as goal

pub returns : goal.returns
returns c = search_logs_are_small
