use Rattle.pc_spreadsheet.proofs.Editing.{dropped_so, dropping_told, dropping_lawful}
use Rattle.pc_spreadsheet.proofs.edits.drop_rule.Goals as goal

pub returns-in-Ok : goal.returns-in-Ok
returns-in-Ok c = dropped_so c.args.session.now c.drop_rule.new.self c.args.notes.now c.args.name.now (rw c.as_str.ensures.text at c.in-Ok.ensures.sheet) c.drop_rule.ensures.budget

pub tell_refused-requires : goal.tell_refused-requires
tell_refused-requires c = dropping_lawful c.args.session.now c.drop_rule.new.self c.args.notes.now c.args.name.now c.in-Err.refused (rw c.as_str.ensures.text at c.in-Err.ensures.refused)

pub returns-in-Err : goal.returns-in-Err
returns-in-Err c =
    dropping_told c.args.session.now c.drop_rule.new.self c.args.notes.now c.args.name.now c.drop_rule.result c.in-Err.refused c.tell_refused.new.notes c.tell_refused.result c.tell_refused.ensures c.in-Err.is (rw c.as_str.ensures.text at c.drop_rule.ensures.no_rule) (rw c.as_str.ensures.text at c.in-Err.ensures.refused) c.in-Err.ensures.unchanged.0
