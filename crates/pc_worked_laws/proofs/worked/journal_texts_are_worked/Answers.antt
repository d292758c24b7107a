use Rattle.pc_worked_laws.proofs.JournalTextsHold.{worked_texts, worked_faults}
use Rattle.pc_worked_laws.proofs.worked.journal_texts_are_worked.Goals as goal

pub returns-clause-texts : goal.returns-clause-texts
returns-clause-texts c = worked_texts

pub returns-clause-faults : goal.returns-clause-faults
returns-clause-faults c = worked_faults
