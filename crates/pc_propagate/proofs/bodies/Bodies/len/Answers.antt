use Rattle.std.proofs.Common.{ap, sym, ◌∙◌, length}
use Rattle.pc_lits.proofs.RowsLemmas.{length-rows_from}
use Rattle.pc_propagate.proofs.bodies.Bodies.len.Goals as goal

pub returns : goal.returns
returns c = c.len.ensures ∙ c.self.inside.ends.ok.0 ∙ sym (length-rows_from _ 0 _) ∙ ap length c.self.view_is
