use Rattle.std.proofs.Common.{ap, sym, ◌∙◌, length, arith}
use Rattle.pc_log.proofs.MarkLemmas.{length-marked}
use Rattle.pc_log.proofs.log.Log.count.Goals as goal

pub overflow_cast-result : goal.overflow_cast-result
overflow_cast-result c = omega (arith, c.len.ensures, c.self.inside.marks.ok.0, c.self.invariant.0)

pub returns : goal.returns
returns c = c.len.ensures ∙ c.self.inside.marks.ok.0 ∙ sym (length-marked _ _) ∙ ap length c.self.view_is
