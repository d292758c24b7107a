use Rattle.std.proofs.Common.{sym, subst}
use Rattle.pc_solver.specs.Clauses.{IsOverOwn}
use Rattle.pc_solver.specs.Banned.{AreAskable}
use Rattle.pc_solver.specs.inside.Search.{SearchView}
use Rattle.pc_solver.proofs.search.Search.add_block.Goals as goal

pub add_block-requires-clause-own : goal.add_block-requires-clause-own
add_block-requires-clause-own c = subst (λ (s : SearchView). IsOverOwn s.clauses.own c.args.block.now) (sym c.self.view_is) c.requires.own

pub add_block-requires-clause-askable : goal.add_block-requires-clause-askable
add_block-requires-clause-askable c = subst (λ (s : SearchView). AreAskable s.clauses.banned c.args.block.now) (sym c.self.view_is) c.requires.askable

pub invariant_of-self : goal.invariant_of-self
invariant_of-self c = c.add_block.ensures.search c.self.inside.trail c.self.invariant
