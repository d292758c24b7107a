use Rattle.std.proofs.Common.{subst, sym}
use Rattle.pc_sheet.specs.Sheet.{Sheet}
use Rattle.pc_session.specs.inside.States.{IsKept}
use Rattle.pc_session.proofs.session.Session.book_with.Goals as goal

pub invariant_of-self : goal.invariant_of-self
invariant_of-self c = subst (λ (b : Sheet). IsKept (record c.self.inside.state { book = b })) (sym c.with_rule.ensures.same) c.self.invariant
