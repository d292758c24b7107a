use Rattle.pc_canonical_laws.proofs.Whole.{sheet_given}
use Rattle.pc_canonical_laws.proofs.law.declarations_give_the_sheet.Goals as goal

pub returns : goal.returns
returns c = sheet_given
