use Rattle.std.proofs.Common.{sym, refl, subst, arith, Contains}
use Rattle.pc_lits.specs.Literals.{negated}
use Rattle.pc_propagate.specs.Entries.{falses, AreEntries}
use Rattle.pc_propagate.proofs.PlaceLemmas.{known_by_false}
use Rattle.pc_propagate.specs.Quiet.{WasSettled}
use Rattle.pc_solver.specs.Clauses.{IsOverOwn}
use Rattle.pc_solver.specs.InLog.{IsLogOf, StandsInLog}
use Rattle.pc_solver.specs.inside.Reasons.{KeepsReason}
use Rattle.pc_solver.specs.inside.Search.{SearchView, KnowsAll}
use Rattle.pc_solver.proofs.ClauseLemmas.{own_in_range}
use Rattle.pc_solver.proofs.ReasonLemmas.{reason_settled, reason_implied, reason_search, reason_kept, reason_dropped}
use Rattle.pc_solver.proofs.TurnLemmas.{keeps_none}
use Rattle.pc_solver.proofs.search.Search.justify.Goals as goal

pub is_reason-requires-clause-in_range : goal.is_reason-requires-clause-in_range
is_reason-requires-clause-in_range c =
    own_in_range c.self.inside.clauses.own c.self.inside.trail.variables c.args.clause.now c.self.invariant.over_own.in_range (subst (λ (s : SearchView). IsOverOwn s.clauses.own c.args.clause.now) (sym c.self.view_is) c.requires.over_own)

pub is_reason-requires-clause-is_true : goal.is_reason-requires-clause-is_true
is_reason-requires-clause-is_true c = subst (λ (s : SearchView). Contains (falses s.trail.entries) (negated c.args.lit)) (sym c.self.view_is) c.requires.is_true

pub is_reason-requires-clause-known : goal.is_reason-requires-clause-known
is_reason-requires-clause-known c =
    known_by_false c.self.inside.trail.entries (negated c.args.lit) (subst (λ (s : SearchView). Contains (falses s.trail.entries) (negated c.args.lit)) (sym c.self.view_is) c.requires.is_true)

pub add_derived-requires-clause-over_own : goal.add_derived-requires-clause-over_own
add_derived-requires-clause-over_own c = subst (λ (s : SearchView). IsOverOwn s.clauses.own c.args.clause.now) (sym c.self.view_is) c.requires.over_own

pub add_derived-requires-clause-all : goal.add_derived-requires-clause-all
add_derived-requires-clause-all c = subst (λ (s : SearchView). KnowsAll s.clauses) (sym c.self.view_is) c.requires.all

pub attach_next-requires-clause-some : goal.attach_next-requires-clause-some
attach_next-requires-clause-some c = omega (arith, c.in_ok-add_derived.ensures.next)

pub attach_next-requires-clause-search : goal.attach_next-requires-clause-search
attach_next-requires-clause-search c = c.in_ok-add_derived.ensures.search c.self.inside.trail c.self.invariant

pub attach_next-requires-clause-settled : goal.attach_next-requires-clause-settled
attach_next-requires-clause-settled c =
    let are = subst (λ (s : SearchView). AreEntries s.trail.variables s.trail.entries) (sym c.self.view_is) c.recall.ensures.entries in
    subst (WasSettled c.self.inside.trail.entries) (sym c.in_ok-add_derived.ensures.is) (reason_settled c.self.inside.trail.entries c.args.clause.now c.args.lit are.different c.requires.has c.if-not-is_reason.ensures)

pub justify-requires : goal.justify-requires
justify-requires c =
    reason_implied c.quiet_is_kept.ensures c.add_derived.new.self c.attach_next.new.self c.self.inside.trail c.attach_next.new.trail c.attach_next.new.trail c.args.clause.now c.args.lit c.known-number.result c.known-number.ensures.is c.in_ok-add_derived.ensures.next
    c.in_ok-add_derived.ensures.is c.in_ok-add_derived.ensures.stands c.in_ok-attach_next.ensures.ok c.in_ok-attach_next.ensures.trail c.if-not-is_reason.ensures

pub invariant_of-self-2 : goal.invariant_of-self-2
invariant_of-self-2 c =
    let are = subst (λ (s : SearchView). AreEntries s.trail.variables s.trail.entries) (sym c.self.view_is) c.recall.ensures.entries in
    reason_search c.quiet_is_kept.ensures c.add_derived.new.self c.attach_next.new.self c.self.inside.trail c.attach_next.new.trail c.justify.new.self c.args.clause.now c.args.lit c.known-number.result c.known-number.ensures.is c.in_ok-add_derived.ensures.next
    c.in_ok-add_derived.ensures.is c.in_ok-add_derived.ensures.stands c.in_ok-attach_next.ensures.ok c.in_ok-attach_next.ensures.trail are.different c.requires.has c.if-not-is_reason.ensures c.in_ok-attach_next.ensures.search c.justify.ensures.justified c.justify.ensures.over

pub returns : goal.returns
returns c =
    subst (λ (s : SearchView). KeepsReason s (record { clauses = c.attach_next.new.self; trail = c.justify.new.self }) c.args.log.now) c.self.view_is
    (reason_kept c.quiet_is_kept.ensures c.add_derived.new.self c.attach_next.new.self c.self.inside.trail c.attach_next.new.trail c.justify.new.self c.args.clause.now c.args.lit c.known-number.result c.known-number.ensures.is c.in_ok-add_derived.ensures.next
    c.in_ok-add_derived.ensures.is c.in_ok-add_derived.ensures.stands c.in_ok-attach_next.ensures.ok c.in_ok-attach_next.ensures.trail (record { clauses = c.self.inside.clauses; trail = c.self.inside.trail }) c.args.log.now refl c.in_ok-add_derived.ensures.problem
    (c.in_ok-add_derived.ensures.log c.args.log.now (subst (λ (s : SearchView). StandsInLog s.clauses.axioms c.args.log.now c.args.line c.args.clause.now) (sym c.self.view_is) c.requires.stands) (subst (λ (s : SearchView). IsLogOf s.clauses c.args.log.now) (sym c.self.view_is) c.requires.log))
    c.justify.ensures.justified)

pub returns-then-not-is_reason : goal.returns-then-not-is_reason
returns-then-not-is_reason c = keeps_none c.args.self.now c.args.log.now c.requires.log

pub invariant_of-self : goal.invariant_of-self
invariant_of-self c = c.in_err-add_derived.ensures.search c.self.inside.trail c.self.invariant

pub returns-in_err-add_derived : goal.returns-in_err-add_derived
returns-in_err-add_derived c =
    subst (λ (s : SearchView). KeepsReason s (record { clauses = c.add_derived.new.self; trail = c.self.inside.trail }) c.args.log.now) c.self.view_is
    (reason_dropped (record { clauses = c.self.inside.clauses; trail = c.self.inside.trail }) c.add_derived.new.self c.add_derived.new.self c.self.inside.trail c.args.log.now c.in_err-add_derived.ensures.problem
    (c.in_err-add_derived.ensures.log c.args.log.now (subst (λ (s : SearchView). StandsInLog s.clauses.axioms c.args.log.now c.args.line c.args.clause.now) (sym c.self.view_is) c.requires.stands) (subst (λ (s : SearchView). IsLogOf s.clauses c.args.log.now) (sym c.self.view_is) c.requires.log))
    refl (record { variables = refl; entries = refl }))

pub returns-in_err-attach_next : goal.returns-in_err-attach_next
returns-in_err-attach_next c =
    subst (λ (s : SearchView). KeepsReason s (record { clauses = c.attach_next.new.self; trail = c.attach_next.new.trail }) c.args.log.now) c.self.view_is
    (reason_dropped (record { clauses = c.self.inside.clauses; trail = c.self.inside.trail }) c.add_derived.new.self c.attach_next.new.self c.attach_next.new.trail c.args.log.now c.in_ok-add_derived.ensures.problem
    (c.in_ok-add_derived.ensures.log c.args.log.now (subst (λ (s : SearchView). StandsInLog s.clauses.axioms c.args.log.now c.args.line c.args.clause.now) (sym c.self.view_is) c.requires.stands) (subst (λ (s : SearchView). IsLogOf s.clauses c.args.log.now) (sym c.self.view_is) c.requires.log))
    c.in_err-attach_next.ensures.err c.in_err-attach_next.ensures.trail)
