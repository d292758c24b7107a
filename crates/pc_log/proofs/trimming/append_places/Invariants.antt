use Rattle.pc_log.proofs.AppendLemmas.{Appended}
use Rattle.pc_log.proofs.trimming.append_places.Given as goal

abbrev pub invariant-loop-place : goal.invariant-loop-place
invariant-loop-place l = Appended l.log l.places l.fn.into l.place-index l.slots l.into
