use Rattle.std.proofs.Common.{sym, subst, arith}
use Rattle.pc_propagate.specs.Entries.{AreEntries}
use Rattle.pc_solver.specs.inside.Search.{SearchView, HasLearned, GoesBack}
use Rattle.pc_solver.proofs.LearnLemmas.{back_search, next_settled, goes_back, goes_back_only, restarted_quiet, asserting_says, has_first}
use Rattle.pc_solver.proofs.search.Search.go_back.Goals as goal

pub attach_next-requires-clause-search : goal.attach_next-requires-clause-search
attach_next-requires-clause-search c =
    back_search c.quiet_is_kept.ensures c.self.inside.clauses c.self.inside.trail c.back_to.new.self c.args.level c.self.invariant c.back_to.ensures.back (c.back_to.ensures.over _ _ c.self.invariant.over)

pub attach_next-requires-clause-settled : goal.attach_next-requires-clause-settled
attach_next-requires-clause-settled c =
    next_settled c.learned_clauses_were_settled.ensures (record { clauses = c.self.inside.clauses; trail = c.self.inside.trail }) c.back_to.new.self _ _ c.args.level (subst (λ (s : SearchView). AreEntries s.trail.variables s.trail.entries) (sym c.self.view_is) c.recall.ensures.entries) (subst (λ (s : SearchView). HasLearned s c.args.learned.now.clause.items c.args.learned.now.level) (sym c.self.view_is) c.requires.learned) c.requires.level c.back_to.ensures.back

pub returns-then-level-learned-clause-back : goal.returns-then-level-learned-clause-back
returns-then-level-learned-clause-back c =
    subst (λ (s : SearchView). GoesBack s (record { clauses = c.attach_next.new.self; trail = c.attach_next.new.trail })) c.self.view_is
    (goes_back c.self.inside.clauses c.attach_next.new.self c.self.inside.trail c.back_to.new.self c.attach_next.new.trail c.args.level c.back_to.ensures.back c.in_ok-attach_next.ensures.trail c.in_ok-attach_next.ensures.ok)

pub returns-then-level-learned-clause-says : goal.returns-then-level-learned-clause-says
returns-then-level-learned-clause-says c =
    restarted_quiet c.learned_clauses_were_settled.ensures c.quiet_is_kept.ensures c.self.inside.clauses c.attach_next.new.self c.self.inside.trail c.back_to.new.self c.attach_next.new.trail _ _ c.args.level c.self.invariant
    (subst (λ (s : SearchView). AreEntries s.trail.variables s.trail.entries) (sym c.self.view_is) c.recall.ensures.entries) (subst (λ (s : SearchView). HasLearned s c.args.learned.now.clause.items c.args.learned.now.level) (sym c.self.view_is) c.requires.learned) c.if-level-learned.true c.back_to.ensures.back c.in_ok-attach_next.ensures.trail c.in_ok-attach_next.ensures.ok c.in_ok-attach_next.ensures.search

pub returns-clause-back : goal.returns-clause-back
returns-clause-back c =
    subst (λ (s : SearchView). GoesBack s (record { clauses = c.attach_next.new.self; trail = c.attach_next.new.trail })) c.self.view_is
    (goes_back c.self.inside.clauses c.attach_next.new.self c.self.inside.trail c.back_to.new.self c.attach_next.new.trail c.args.level c.back_to.ensures.back c.in_ok-attach_next.ensures.trail c.in_ok-attach_next.ensures.ok)

pub returns-clause-says : goal.returns-clause-says
returns-clause-says c =
    asserting_says c.learned_clauses_assert.ensures c.self.inside.clauses c.attach_next.new.self c.self.inside.trail c.back_to.new.self c.attach_next.new.trail _ _ c.args.level c.known-number.result c.index.result.now c.self.invariant
    (subst (λ (s : SearchView). AreEntries s.trail.variables s.trail.entries) (sym c.self.view_is) c.recall.ensures.entries) (subst (λ (s : SearchView). HasLearned s c.args.learned.now.clause.items c.args.learned.now.level) (sym c.self.view_is) c.requires.learned) c.requires.level (λ lower. omega (arith, lower, c.if-level-learned.false)) c.back_to.ensures.back c.in_ok-attach_next.ensures.trail c.in_ok-attach_next.ensures.ok
    c.in_ok-attach_next.ensures.search c.known-number.ensures.is c.index.ensures

pub returns-in_err-attach_next-clause-back : goal.returns-in_err-attach_next-clause-back
returns-in_err-attach_next-clause-back c =
    subst (λ (s : SearchView). GoesBack s (record { clauses = c.attach_next.new.self; trail = c.attach_next.new.trail })) c.self.view_is
    (goes_back_only c.self.inside.clauses c.attach_next.new.self c.self.inside.trail c.back_to.new.self c.attach_next.new.trail c.args.level c.back_to.ensures.back c.in_err-attach_next.ensures.trail c.in_err-attach_next.ensures.err)

pub index-requires : goal.index-requires
index-requires c = omega (arith, has_first c.args.self.now _ _ c.requires.learned, c.args.learned.now.clause.ok)
