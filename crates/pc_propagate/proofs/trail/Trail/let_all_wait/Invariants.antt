use Rattle.pc_propagate.proofs.WatchLemmas.{HaveWaited}
use Rattle.pc_propagate.proofs.trail.Trail.let_all_wait.Given as goal

abbrev pub invariant-watches : goal.invariant-watches
invariant-watches l = HaveWaited l.lit l.index l.initial.self l.self
