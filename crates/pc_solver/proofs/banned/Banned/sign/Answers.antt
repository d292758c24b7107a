use Rattle.std.proofs.Common.{◌∙◌, sym, ap, Bool, List, Option}
use Rattle.pc_solver.specs.Banned.{banned_sign}
use Rattle.pc_solver.specs.inside.Banning.{values_in}
use Rattle.pc_solver.proofs.banned.Banned.sign.Goals as goal

pub returns-in-None : goal.returns-in-None
returns-in-None c = ap (λ (b : List (Option Bool)). banned_sign b c.args.variable) (sym (ap values_in c.in-None.is) ∙ c.self.view_is)

pub returns-in-Some : goal.returns-in-Some
returns-in-Some c = c.sign_by.ensures ∙ ap (λ (b : List (Option Bool)). banned_sign b c.args.variable) (sym (ap values_in c.in-Some.is) ∙ c.self.view_is)
