use Rattle.std.proofs.Common.{refl}
use Rattle.pc_spreadsheet.specs.inside.Repairs.{by_reason}
use Rattle.pc_spreadsheet.proofs.Proving.{doubted_in}
use Rattle.pc_spreadsheet.proofs.repairs.doubt.Goals as goal

pub returns-in-Some : goal.returns-in-Some
returns-in-Some c = by_reason (_, c.in-Some.ensures.right.justifies.least.supports) refl

pub returns-in-None : goal.returns-in-None
returns-in-None c = doubted_in c.args.session.now c.args.target c.args.notes.now c.find_lacking.new.notes c.of.result.book.now c.of.result.budget c.find_lacking.result c.of.ensures.book c.of.ensures.budget c.find_lacking.ensures
