use Rattle.std.proofs.Common.{sym, ◌∙◌, arith}
use Rattle.pc_reason.proofs.RangeLemmas.{range_first}
use Rattle.pc_reason.proofs.steps.StepsIterator.next.Goals as goal

pub returns-clause-steps : goal.returns-clause-steps
returns-clause-steps c = sym c.self.view_is ∙ range_first c.self.inside.log.now c.self.inside.next c.self.inside.end _ (omega arith) c.line-line.ensures.line
