use Rattle.std.proofs.Common.{refl}
use Rattle.pc_spreadsheet.specs.Commands.{state_of}
use Rattle.pc_spreadsheet.proofs.Proving.{many_to_prove, proved_in}
use Rattle.pc_spreadsheet.proofs.repairs.prove_repairs.Goals as goal

pub returns-in-Ok-Some : goal.returns-in-Ok-Some
returns-in-Ok-Some c = proved_in c.args.session.now c.args.notes.now c.prove_sets.new.notes c.of.result.book.now c.of.result.budget c.prove_sets.result c.in-Ok-Some.sets (rw c.in-Ok-Some.field-0-is at c.in-Ok-Some.ensures) c.of.ensures.book c.of.ensures.budget c.prove_sets.ensures

pub returns-in-Ok-None : goal.returns-in-Ok-None
returns-in-Ok-None c = many_to_prove (state_of c.args.session.now, c.args.notes.now) (rw c.in-Ok-None.field-0-is at c.in-Ok-None.ensures)

pub returns-in-Err : goal.returns-in-Err
returns-in-Err c = (tt, refl)
