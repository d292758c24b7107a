use Rattle.std.proofs.Common.{ap, sym, ◌∙◌, length}
use Rattle.pc_log.proofs.LineLemmas.{count_of_lines}
use Rattle.pc_log.proofs.further.Further.len.Goals as goal

pub returns : goal.returns
returns c = c.len.ensures ∙ c.self.inside.kinds.ok.0 ∙ sym (count_of_lines _ _ _ c.self.invariant) ∙ ap length c.self.view_is
