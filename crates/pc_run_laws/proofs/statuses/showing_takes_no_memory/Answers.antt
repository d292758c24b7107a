use Rattle.std.proofs.Common.{inl, inr}
use Rattle.pc_run_laws.proofs.statuses.showing_takes_no_memory.Goals as goal

pub returns : goal.returns
returns c = λ old new line one allowed. allowed.0 (inr (inl one))
