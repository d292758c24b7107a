use Rattle.std.proofs.Common.{sym, subst}
use Rattle.pc_reason.specs.Fitting.{IsFitting}
use Rattle.pc_theory.proofs.OfRules.{base_here}
use Rattle.pc_session.specs.Views.{SessionView}
use Rattle.pc_session.proofs.session.SessionChoices.fitting.Goals as goal

pub returns : goal.returns
returns c =
    let s = c.self.inside.state in
    let P : SessionView → Type 0 = λ v. IsFitting v.sheet c.fitting.result.now in
    subst P c.self.view_is (subst (IsFitting s.book) (sym c.fitting.ensures) (base_here s.book s.theory.base c.self.invariant.state.known.base))
