use Rattle.std.proofs.Common.{refl}
use Rattle.pc_spreadsheet.specs.inside.Asking.{with_lines, without_room}
use Rattle.pc_spreadsheet.proofs.Answering.{answer_proves}
use Rattle.pc_spreadsheet.proofs.asking.certify.Goals as goal

pub returns-in-Ok : goal.returns-in-Ok
returns-in-Ok c = λ sheet f is answer. with_lines _ (answer_proves sheet f c.args.log.now c.args.answer _ is answer refl refl refl c.in-Ok.ensures)

pub returns-in-Err : goal.returns-in-Err
returns-in-Err c = λ sheet f is answer. without_room
