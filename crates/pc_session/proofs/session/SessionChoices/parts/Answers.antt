use Rattle.std.proofs.Common.{◌≡◌, length, ◌∙◌, subst}
use Rattle.pc_world_list.specs.Chosen.{chosen_parts}
use Rattle.pc_session.specs.Views.{SessionView}
use Rattle.pc_session.proofs.Choosing.{many_chosen}
use Rattle.pc_session.proofs.session.SessionChoices.parts.Goals as goal

pub returns : goal.returns
returns c =
    let s = c.self.inside.state in
    let P : SessionView → Type 0 = λ v. c.len.result ≡ length (chosen_parts v.sheet) in
    subst P c.self.view_is (c.len.ensures ∙ many_chosen s.book s.theory c.self.invariant.state.known s.chosen c.self.invariant.chosen)
