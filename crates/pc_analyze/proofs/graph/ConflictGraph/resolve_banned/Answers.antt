use Rattle.std.proofs.Common.{◌≡◌, arith, ap, ◌∙◌, ◌-◌, ◌+◌, ◌<◌, subst, ℕ, sym, List, Bool, Option, IsNone, reverse, refl}
use Rattle.std.proofs.lemmas.Bool.{OnTrue_at, OnFalse_at}
use Rattle.std.proofs.lemmas.Option.{get_or_from_slice_get}
use Rattle.pc_propagate.specs.declared.trail.TrailEntry.{TrailEntry}
use Rattle.pc_propagate.specs.declared.clauses.ClauseRef.{ClauseRef}
use Rattle.pc_analyze.specs.declared.graph.ConflictGraph.{ConflictGraph}
use Rattle.pc_analyze.specs.inside.Graph.{trail_of, clauses_of, banned_of}
use Rattle.pc_analyze.specs.inside.Refuted.{RefuteMarked, AreLeft}
use Rattle.pc_analyze.proofs.FreeLemmas.{IsFreed, freed_skip, freed_resolve, freed_at_first}
use Rattle.pc_analyze.proofs.graph.ConflictGraph.resolve_banned.Goals as goal

pub walk-init : goal.walk-init
walk-init c =
    freed_at_first c.args.self.now c.args.point c.args.marks.now c.args.hints.now.items c.requires.early c.requires.free c.requires.refs c.requires.refuted c.requires.asked

before : (g : ConflictGraph) (point place : ℕ) (first marks : List Bool) (hints : List ClauseRef) → 0 < place → IsFreed g point place first marks hints → IsFreed g point (place - 1 + 1) first marks hints
before g point place first marks hints positive h = let same : place ≡ place - 1 + 1 = omega arith in subst (λ (n : ℕ). IsFreed g point n first marks hints) same h

pub gives_way-requires-clause-within : goal.gives_way-requires-clause-within
gives_way-requires-clause-within c = omega (arith, c.walk-test.true, c.walk.invariant.early, c.requires.within)

pub entry_at-requires : goal.entry_at-requires
entry_at-requires c = omega (arith, c.walk-test.true, c.walk.invariant.early, c.requires.within)

pub resolve-requires-clause-within : goal.resolve-requires-clause-within
resolve-requires-clause-within c = omega (arith, c.walk-test.true, c.walk.invariant.early, c.requires.within)

pub resolve-requires-clause-reason : goal.resolve-requires-clause-reason
resolve-requires-clause-reason c d = ap (λ (e : TrailEntry). e.reason) (get_or_from_slice_get _ (c.walk.place - 1) c.entry_at.result d c.entry_at.ensures) ∙ c.in-Some.is

pub resolve-requires-clause-marked : goal.resolve-requires-clause-marked
resolve-requires-clause-marked c = (OnTrue_at c.if-gives_way.true c.gives_way.ensures.gives).0

pub walk-preserved-in_ok-resolve-in-Some : goal.walk-preserved-in_ok-resolve-in-Some
walk-preserved-in_ok-resolve-in-Some c =
    let was = before c.args.self.now c.args.point c.walk.place c.args.marks.now c.walk.marks c.walk.hints.items c.walk-test.true c.walk.invariant in
    let gives = OnTrue_at c.if-gives_way.true c.gives_way.ensures.gives in
    let place = c.walk.place - 1 in
    freed_resolve c.args.self.now c.requires.graph.graph c.args.point place c.args.marks.now c.walk.marks c.walk.hints.items was c.in-Some.reason _ _ 0 _
    (omega (arith, c.walk-test.true, c.walk.invariant.early, c.requires.within))
    (λ d. ap (λ (e : TrailEntry). e.reason) (get_or_from_slice_get _ place c.entry_at.result d c.entry_at.ensures) ∙ c.in-Some.is)
    (c.walk.auto.marks ∙ c.requires.size) gives.0 gives.1 c.in_ok-resolve-in-Some.ensures.marked c.in_ok-resolve-in-Some.ensures.hints
    (c.in_ok-resolve-in-Some.ensures.refs was.refs) (c.in_ok-resolve-in-Some.ensures.asked was.asked)

pub walk-preserved-in-None : goal.walk-preserved-in-None
walk-preserved-in-None c =
    let gives = OnTrue_at c.if-gives_way.true c.gives_way.ensures.gives in
    absurd (c.requires.graph.decided (c.walk.place - 1) c.entry_at.result c.entry_at.ensures (subst (λ (r : Option ClauseRef). IsNone r) (sym c.in-None.is) refl) gives.1)

pub walk-preserved : goal.walk-preserved
walk-preserved c =
    freed_skip c.args.self.now c.requires.graph.graph c.args.point (c.walk.place - 1) c.args.marks.now c.walk.marks c.walk.hints.items
    (before c.args.self.now c.args.point c.walk.place c.args.marks.now c.walk.marks c.walk.hints.items c.walk-test.true c.walk.invariant) (OnFalse_at c.if-gives_way.false c.gives_way.ensures.stays)

pub returns-clause-refs : goal.returns-clause-refs
returns-clause-refs c = c.walk.invariant.refs

pub returns-clause-refuted : goal.returns-clause-refuted
returns-clause-refuted c =
    let done : c.walk.place ≡ 0 = omega (arith, c.walk-test.false) in
    subst (λ (n : ℕ). RefuteMarked (trail_of c.args.self.now) n c.walk.marks (clauses_of c.args.self.now.graph (reverse c.walk.hints.items))) done c.walk.invariant.refuted

pub returns-clause-asked : goal.returns-clause-asked
returns-clause-asked c = c.walk.invariant.asked

pub returns-clause-free : goal.returns-clause-free
returns-clause-free c = λ k marked. c.walk.invariant.free k (omega (arith, c.walk-test.false)) marked

pub returns-clause-point : goal.returns-clause-point
returns-clause-point c = c.walk.invariant.point_stays

pub returns-clause-alone : goal.returns-clause-alone
returns-clause-alone c = c.walk.invariant.alone

pub returns-clause-left : goal.returns-clause-left
returns-clause-left c = λ conflict h.
    let done : c.walk.place ≡ 0 = omega (arith, c.walk-test.false) in
    subst
    (λ (n : ℕ). AreLeft c.args.self.now.graph.axioms.now c.args.self.now.graph.more.now (banned_of c.args.self.now) (trail_of c.args.self.now) conflict c.args.point n c.walk.marks) done
    (c.walk.invariant.ways conflict h)
