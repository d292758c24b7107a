use Rattle.pc_spreadsheet.proofs.Formed.{starts_formed, answers_keep}
use Rattle.pc_spreadsheet.proofs.law.states_are_well_formed.Goals as goal

pub returns-clause-starts : goal.returns-clause-starts
returns-clause-starts c = starts_formed c.sheets_are_well_formed.ensures

pub returns-clause-answers : goal.returns-clause-answers
returns-clause-answers c = answers_keep c.cells_are_numbered_in_order.ensures
