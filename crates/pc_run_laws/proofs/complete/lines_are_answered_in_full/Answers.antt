use Rattle.pc_run_laws.proofs.Completing.{lines_in_full}
use Rattle.pc_run_laws.proofs.complete.lines_are_answered_in_full.Goals as goal

pub returns : goal.returns
returns c = lines_in_full c.lines_have_one_verdict.ensures c.cells_are_numbered_in_order.ensures
