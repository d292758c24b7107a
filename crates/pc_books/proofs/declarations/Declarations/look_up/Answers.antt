use Rattle.std.proofs.Common.{subst}
use Rattle.pc_books.specs.DeclarationsView.{IsTableOf}
use Rattle.pc_books.proofs.NamesLemmas.{look_up_exact, look_up_none}
use Rattle.pc_books.proofs.declarations.Declarations.look_up.Goals as goal

pub returns-clause-exact : goal.returns-clause-exact
returns-clause-exact c =
    look_up_exact c.args.self.now c.self.inside.names c.args.name.now c.look_up.result (subst (λ u. IsTableOf u c.self.inside.names) c.self.view_is c.self.invariant.named) c.look_up.ensures

pub returns-clause-undeclared : goal.returns-clause-undeclared
returns-clause-undeclared c =
    look_up_none c.args.self.now c.self.inside.names c.args.name.now c.look_up.result (subst (λ u. IsTableOf u c.self.inside.names) c.self.view_is c.self.invariant.named) c.look_up.ensures
