use Rattle.pc_run_laws.proofs.Counting.{tallies_counted}
use Rattle.pc_run_laws.proofs.counts.tallies_are_counted.Goals as goal

pub returns : goal.returns
returns c = tallies_counted
