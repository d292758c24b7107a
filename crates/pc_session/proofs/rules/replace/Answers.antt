use Rattle.pc_session.proofs.RuleEdits.{same_cause}
use Rattle.pc_session.proofs.Viewing.{on_err, same_compacted, same_failed}
use Rattle.pc_session.proofs.rules.replace.Goals as goal

pub returns-in_err-compact_if_due-clause-kept : goal.returns-in_err-compact_if_due-clause-kept
returns-in_err-compact_if_due-clause-kept c = on_err c.from_residual.result (same_failed c.args.state.now c.compact_if_due.new.cache c.in_err-compact_if_due.ensures.err)

pub returns-in-Err-clause-refused : goal.returns-in-Err-clause-refused
returns-in-Err-clause-refused c = same_cause c.args.book c.args.budget c.in-Err.refused c.refused_edit.result c.refused_edit.ensures c.in-Err.ensures.refused

pub returns-in-Err-clause-kept : goal.returns-in-Err-clause-kept
returns-in-Err-clause-kept c = same_compacted c.args.state.now c.compact_if_due.new.cache c.in_ok-compact_if_due.ensures.rows c.in_ok-compact_if_due.ensures.left
