use Rattle.pc_run_laws.proofs.Spending.{calls_spend}
use Rattle.pc_run_laws.proofs.complete.calls_spend_too_little.Goals as goal

pub returns : goal.returns
returns c = calls_spend
