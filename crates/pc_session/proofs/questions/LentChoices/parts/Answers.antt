use Rattle.std.proofs.Common.{◌≡◌, ◌∙◌, length, subst}
use Rattle.pc_sheet.specs.Sheet.{Sheet}
use Rattle.pc_world_list.specs.Chosen.{chosen_parts}
use Rattle.pc_theory.specs.Theories.{TheoryView}
use Rattle.pc_session.proofs.Choosing.{many_chosen}
use Rattle.pc_session.proofs.questions.LentChoices.parts.Goals as goal

pub returns : goal.returns
returns c =
    let s = c.self.inside.state.now in
    let lent = c.self.invariant in
    let theory : TheoryView = record s.theory { ground = lent.0 } in
    subst (λ (b : Sheet). c.len.result ≡ length (chosen_parts b)) c.self.view_is (c.len.ensures ∙ many_chosen s.book theory lent.1.state.known s.chosen lent.1.chosen)
