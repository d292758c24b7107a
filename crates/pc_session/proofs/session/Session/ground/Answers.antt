use Rattle.std.proofs.Common.{◌≡◌, ◌∙◌, subst}
use Rattle.pc_ground.specs.Grounded.{grounded}
use Rattle.pc_theory.proofs.OfRules.{grounded_alone}
use Rattle.pc_session.specs.Views.{SessionView}
use Rattle.pc_session.proofs.session.Session.ground.Goals as goal

pub returns : goal.returns
returns c =
    let s = c.self.inside.state in
    let P : SessionView → Type 0 = λ v. c.ground.result.now ≡ grounded v.sheet in
    subst P c.self.view_is (c.ground.ensures ∙ (c.self.invariant.state.known.ground ∙ grounded_alone s.book))
