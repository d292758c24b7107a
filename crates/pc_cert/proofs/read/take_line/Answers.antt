use Rattle.std.proofs.Common.{map}
use Rattle.pc_cert.specs.Order.{kind_of}
use Rattle.pc_cert.proofs.Taken.{no_form}
use Rattle.pc_cert.proofs.read.take_line.Goals as goal

pub returns-in-Ok : goal.returns-in-Ok
returns-in-Ok c = λ ls g o at. c.take_form.ensures ls c.args.line.now c.in-Ok.ensures.told g o at

pub returns-in-Err : goal.returns-in-Err
returns-in-Err c = λ ls g o at. no_form c.args.book.now (map kind_of ls) c.args.line.now c.args.number c.in-Err.fault c.in-Err.ensures.fault
