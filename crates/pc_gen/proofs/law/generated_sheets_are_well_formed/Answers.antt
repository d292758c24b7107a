use Rattle.pc_gen.proofs.Formed.{formed}
use Rattle.pc_gen.proofs.law.generated_sheets_are_well_formed.Goals as goal

pub returns : goal.returns
returns c = formed
