use Rattle.pc_log.proofs.MarkLemmas.{before_found, before_missing, before_numbered}
use Rattle.pc_log.proofs.log.count_before.Goals as goal

pub returns-in-Ok : goal.returns-in-Ok
returns-in-Ok c = before_found _ _ _ _ c.requires c.binary_search.ensures.position c.in-Ok.is

pub returns-in-Err : goal.returns-in-Err
returns-in-Err c = before_missing _ _ _ _ c.requires c.binary_search.ensures.position c.in-Err.is

pub returns-then-at-number : goal.returns-then-at-number
returns-then-at-number c = before_numbered c.args.at.now c.args.place c.args.number c.requires c.if-number-at.true c.if-place-gt0.true c.if-at-number.true
