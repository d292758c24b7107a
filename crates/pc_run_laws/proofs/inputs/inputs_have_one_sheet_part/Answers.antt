use Rattle.pc_run_laws.proofs.OnePart.{one_part}
use Rattle.pc_run_laws.proofs.inputs.inputs_have_one_sheet_part.Goals as goal

pub returns : goal.returns
returns c = one_part
