use Rattle.pc_syntax.proofs.OneLine.{one_line}
use Rattle.pc_syntax.proofs.OneCommand.{one_command_reading}
use Rattle.pc_syntax.proofs.OneSheet.{one_sheet_reading}
use Rattle.pc_syntax.proofs.law.one_reading.Goals as goal

pub returns-clause-line : goal.returns-clause-line
returns-clause-line c = one_line

pub returns-clause-command : goal.returns-clause-command
returns-clause-command c = one_command_reading

pub returns-clause-sheet : goal.returns-clause-sheet
returns-clause-sheet c = one_sheet_reading
