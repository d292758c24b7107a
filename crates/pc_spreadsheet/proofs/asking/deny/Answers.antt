use Rattle.std.proofs.Common.{refl, ap}
use Rattle.pc_sheet.specs.Views.{statement_of}
use Rattle.pc_spreadsheet.proofs.Answering.{ask_is_name, denied_rule}
use Rattle.pc_spreadsheet.proofs.asking.deny.Goals as goal

pub new-requires : goal.new-requires
new-requires c = ask_is_name

pub returns-clause-rule : goal.returns-clause-rule
returns-clause-rule c = denied_rule _ (statement_of c.args.formula) c.in_ok-denied.denied c.in_ok-name.ensures refl (ap statement_of c.in_ok-denied.ensures.ok)
