use Rattle.std.proofs.Common.{sym, subst, List}
use Rattle.pc_lits.specs.declared.literal.Var.{Var}
use Rattle.pc_solver.specs.Clauses.{IsOverOwn}
use Rattle.pc_solver.specs.inside.Search.{SearchView, GoesBack}
use Rattle.pc_solver.proofs.SearchLemmas.{learn_stopped, learned_back, learned_goes_on, on_ok}
use Rattle.pc_solver.proofs.search.Search.learn.Goals as goal

pub returns-in_err-learned-clause-advances : goal.returns-in_err-learned-clause-advances
returns-in_err-learned-clause-advances c = learn_stopped c.args.self.now c.add_clause.new.self c.args.tally.now c.add_clause.new.tally c.args.log.now c.add_clause.new.log c.in_err-learned.ensures.learns

pub next_level-level-requires : goal.next_level-level-requires
next_level-level-requires c = subst (λ (own : List Var). IsOverOwn own c.args.assumed.now) (sym c.in_ok-learned.ensures.learns.problem.own) c.requires.under_way.over_own

pub go_back-requires-clause-learned : goal.go_back-requires-clause-learned
go_back-requires-clause-learned c = rw c.next_level-level.ensures.same c.in_ok-learned.ensures.learned

pub returns-clause-advances : goal.returns-clause-advances
returns-clause-advances c =
    learned_back c.args.self.now c.add_clause.new.self c.go_back.new.self c.args.tally.now c.add_clause.new.tally c.args.log.now c.add_clause.new.log c.recall.ensures.is c.recall.ensures.entries c.in_ok-learned.ensures.learns c.in_ok-learned.ensures.one
    (subst (λ (s : SearchView). GoesBack s c.go_back.new.self) c.next_level-level.ensures.same c.go_back.ensures.back)

pub returns-clause-under_way : goal.returns-clause-under_way
returns-clause-under_way c =
    on_ok c.go_back.result
    (learned_goes_on c.args.self.now c.add_clause.new.self c.go_back.new.self c.args.assumed.now c.args.tally.now c.add_clause.new.tally c.args.log.now c.add_clause.new.log c.requires.under_way c.in_ok-learned.ensures.learns
    (subst (λ (s : SearchView). GoesBack s c.go_back.new.self) c.next_level-level.ensures.same c.go_back.ensures.back))
    c.go_back.ensures.all
