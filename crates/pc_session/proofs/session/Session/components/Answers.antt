use Rattle.std.proofs.Common.{◌≡◌, sym, subst}
use Rattle.pc_components.specs.View.{AreComponentsOf}
use Rattle.pc_theory.specs.Theories.{rules_alone}
use Rattle.pc_session.specs.Views.{SessionView}
use Rattle.pc_session.proofs.session.Session.components.Goals as goal

pub returns-clause-exact : goal.returns-clause-exact
returns-clause-exact c = let P : SessionView → Type 0 = λ v. c.components.result.now ≡ v.components in subst P c.self.view_is c.components.ensures

pub returns-clause-are : goal.returns-clause-are
returns-clause-are c =
    let P : SessionView → Type 0 = λ v. AreComponentsOf (rules_alone v.sheet) c.components.result.now in
    subst P c.self.view_is (subst (AreComponentsOf (rules_alone c.self.inside.state.book)) (sym c.components.ensures) c.self.invariant.state.known.components)
