use Rattle.std.proofs.Common.{refl}
use Rattle.pc_theorem.proofs.starting.tell_lacking.Goals as goal

pub returns : goal.returns
returns g c = let e = c.tell_no_memory.ensures in (record { told = e.told; fault = e.fault; no_fault = e.no_fault; else_same = refl; none_noted = refl }, (refl, refl))
