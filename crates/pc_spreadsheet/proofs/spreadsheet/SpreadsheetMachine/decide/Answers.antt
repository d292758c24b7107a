use Rattle.std.proofs.Common.{ap, Err}
use Rattle.pc_syntax.specs.Tree.{asked_of}
use Rattle.pc_spreadsheet.proofs.Deciding.{obeyed_line, faulty_line}
use Rattle.pc_spreadsheet.proofs.spreadsheet.SpreadsheetMachine.decide.Goals as goal

pub returns-in-Ok-Some-clause-allowed : goal.returns-in-Ok-Some-clause-allowed
returns-in-Ok-Some-clause-allowed c = λ answer. λ is.
    obeyed_line (c.args.self.now, c.args.notes.now) (c.obey.new.self, c.obey.new.notes) c.args.line.now (asked_of c.in-Ok-Some.command) c.obey.result answer (rw c.in-Ok-Some.field-0-is at c.in-Ok-Some.ensures.told) (rw c.in-Ok-Some.field-0-is at c.in-Ok-Some.ensures.only) c.obey.ensures is

pub returns-in-Err-clause-allowed : goal.returns-in-Err-clause-allowed
returns-in-Err-clause-allowed c = λ answer. λ is.
    faulty_line (c.args.self.now, c.args.notes.now) c.args.line.now c.in-Err.fault answer c.in-Err.ensures.told (λ takes. λ lacks. c.in-Err.ensures.no_memory takes (ap Err lacks)) (rw c.reply_to.ensures at is)
