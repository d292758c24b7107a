use Rattle.pc_gen.proofs.Weighed.{weighs}
use Rattle.pc_gen.proofs.law.generated_sheets_weigh.Goals as goal

pub returns : goal.returns
returns c = weighs
