use Rattle.std.proofs.Common.{sym, subst}
use Rattle.pc_sheet.specs.Sheet.{Sheet}
use Rattle.pc_reason.specs.Fitting.{IsFitting}
use Rattle.pc_theory.proofs.OfRules.{base_here}
use Rattle.pc_session.proofs.questions.LentChoices.fitting.Goals as goal

pub returns : goal.returns
returns c =
    let s = c.self.inside.state.now in
    subst (λ (b : Sheet). IsFitting b c.fitting.result.now) c.self.view_is (subst (IsFitting s.book) (sym c.fitting.ensures) (base_here s.book s.theory.base c.self.invariant.1.state.known.base))
