use Rattle.std.proofs.Common.{◌≡◌, ◌≢◌, ℕ, ◌<◌, ◌≤◌, ◌+◌, ◌-◌, ◌⊎◌, inl, inr, arith, sym, ap, ◌∙◌, subst, true, false, List, Bool, Vec, Global, Option, Some, None, is_some, slice_get, refl, []}
use Rattle.std.proofs.lemmas.Bool.{false≢true, cases_eq, OnTrue_at, OnFalse_at}
use Rattle.std.proofs.lemmas.Option.{get_or_from_slice_get, slice_get-get_or}
use Rattle.pc_propagate.specs.declared.trail.TrailEntry.{TrailEntry}
use Rattle.pc_propagate.specs.declared.clauses.ClauseRef.{ClauseRef}
use Rattle.pc_propagate.specs.Refs.{clause_at}
use Rattle.pc_analyze.specs.inside.Graph.{IsBannedIn, banned_of}
use Rattle.pc_analyze.specs.inside.Marking.{IsMarked, MarksClause, marks_from}
use Rattle.pc_analyze.specs.FirstPoint.{IsBannedAt}
use Rattle.pc_analyze.proofs.MarkLemmas.{marks_from-le, some_mark, unmarked}
use Rattle.pc_analyze.proofs.StepLemmas.{HasReason, no_entry}
use Rattle.pc_analyze.proofs.FreeLemmas.{reason_of_level}
use Rattle.pc_analyze.proofs.WalkLemmas.{IsWalked, before_walked, later_mark, walked_skip, walked_resolve, walked_on, nothing_in}
use Rattle.pc_analyze.specs.inside.Refuted.{AreLeading, ArePassed}
use Rattle.pc_analyze.proofs.WayLemmas.{KeepsWays, other_mark, met_skip, passed_more}
use Rattle.pc_analyze.proofs.graph.ConflictGraph.resolve_level.Goals as goal
use Rattle.pc_analyze.proofs.graph.ConflictGraph.resolve_level.Goals.{then-marks-place+in-Some+in_ok-added-in-Some, then-marks-place+in-None, else-marks-place}

pub overflow_sub-place : goal.overflow_sub-place
overflow_sub-place c =
    let mark = some_mark c.args.marks.now c.args.start (omega (arith, c.requires.left, c.requires.some)) in
    omega (arith, c.requires.refuted.below mark.0 mark.2)

pub walk-init : goal.walk-init
walk-init c =
    let here : IsWalked c.args.self.now.graph c.args.start c.args.end c.args.left c.args.marks.now c.args.hints.now.items =
    record { left_is = c.requires.left; some = c.requires.some; refs = c.requires.refs; refuted = c.requires.refuted; asked = c.requires.asked } in
    let same : c.args.end ≡ c.args.end - 1 + 1 = omega (arith, before_walked _ c.args.start c.args.end c.args.left _ _ here) in (
      omega (arith, before_walked _ c.args.start c.args.end c.args.left _ _ here),
      walked_on _ c.args.start c.args.end c.args.left _ _ here,
      λ conflict met passed. subst
          (λ (n : ℕ). AreLeading c.args.self.now.graph.axioms.now c.args.self.now.graph.more.now c.args.self.now.graph.trail.now.entries conflict n c.args.marks.now
          × ArePassed c.args.self.now.graph.axioms.now c.args.self.now.graph.more.now (banned_of c.args.self.now) c.args.self.now.graph.trail.now.entries conflict c.args.start n) same (met, passed),
    )

pub is_point-requires-clause-within : goal.is_point-requires-clause-within
is_point-requires-clause-within c = omega (arith, c.walk.invariant.0, c.requires.within)

pub resolve-requires-clause-reason : goal.resolve-requires-clause-reason
resolve-requires-clause-reason c d = ap (λ (e : TrailEntry). e.reason) (get_or_from_slice_get _ c.walk.place c.entry_at.result d c.entry_at.ensures) ∙ c.in-Some.is

pub overflow_add-left : goal.overflow_add-left
overflow_add-left c =
    let late : c.args.start ≤ c.walk.place = omega (arith, before_walked _ c.args.start (c.walk.place + 1) c.walk.left _ _ c.walk.invariant.1) in
    omega (arith, c.in_ok-added-in-Some.ensures.counted late, c.walk.invariant.1.left_is, c.walk.invariant.1.some, marks_from-le c.args.start c.resolve.new.marks, c.resolve.auto.marks, c.walk.auto.marks)

-- where there is a mark, there are two, or it is banned
many : (c : goal.Joined-marks-place) → IsMarked c.walk.marks c.walk.place → (1 < c.walk.left) ⊎ IsBannedIn c.args.self.now c.walk.place
many c marked = OnFalse_at c.walk-test.true c.is_point.ensures.goes_on marked

-- it isn't that of the level's decision
after_start : (c : goal.Joined-marks-place) → IsMarked c.walk.marks c.walk.place → c.args.start < c.walk.place
after_start c marked = elim (many c marked) [
  | inl more ↦ later_mark _ c.args.start c.walk.place c.walk.left _ _ c.walk.invariant.1 marked more
  | inr is_banned ↦
      let late : c.args.start ≤ c.walk.place = omega (arith, before_walked _ c.args.start (c.walk.place + 1) c.walk.left _ _ c.walk.invariant.1) in
      elim (cases_eq c.args.start c.walk.place) [
        | inl same ↦
            let at = slice_get-get_or c.args.self.now.graph.trail.now.entries c.args.start no_entry (omega (arith, late, c.walk.invariant.0, c.requires.within)) in
            absurd (c.requires.graph.decided c.args.start _ at (c.requires.starts no_entry) (subst (IsBannedIn c.args.self.now) (sym same) is_banned))
        | inr other ↦ omega (arith, late, other)
      ]
]

no_decision : (c : goal.Joined-marks-place) (e : TrailEntry) → IsMarked c.walk.marks c.walk.place → slice_get c.args.self.now.graph.trail.now.entries c.walk.place ≡ Some e → e.reason ≡ None → ⊥
no_decision c e marked at is =
    let goes = c.requires.goes_on c.walk.place e (after_start c marked) c.walk.invariant.0 in
    let read = get_or_from_slice_get _ c.walk.place e e at in
    let none : is_some e.reason ≡ false = ap (λ (r : Option ClauseRef). is_some r) is in
    let some : is_some e.reason ≡ true = ap (λ (x : TrailEntry). is_some x.reason) (sym read) ∙ goes in
    false≢true (sym none ∙ some)

-- once it gives way, there is another mark
still : (c : goal.Joined-marks-place) (reason : ClauseRef) (blank marks : List Bool) (added : ℕ) → IsMarked c.walk.marks c.walk.place → HasReason c.args.self.now.graph.trail.now.entries c.walk.place reason
    → MarksClause c.args.self.now.graph.trail.now.entries (clause_at c.args.self.now.graph.axioms.now c.args.self.now.graph.more.now reason) c.walk.place c.args.start blank marks added
    → marks_from c.args.start marks + 1 ≡ marks_from c.args.start c.walk.marks + added → 0 < marks_from c.args.start marks
still c reason blank marks added is_marked has marking counted = elim (many c is_marked) [
  | inl more ↦ omega (arith, more, counted, c.walk.invariant.1.left_is)
  | inr is_banned ↦
      let g = c.args.self.now.graph in
      let found =
      reason_of_level g.axioms.now g.more.now g.trail.now c.requires.graph.graph.over.justified c.requires.graph.graph.entries.different (c.requires.graph.quiet c.walk.place is_banned) c.args.start c.walk.place reason
      (after_start c is_marked) (omega (arith, c.walk.invariant.0, c.requires.within)) has c.requires.starts in
      let marked = marking.of_clause found.2.0 found.0 found.2.2 found.1 found.2.3 in
      omega (arith, unmarked marks c.args.start found.2.0 found.2.1 marked)
]

walked : (c : goal.Joined-marks-place)
    → IsWalked c.args.self.now.graph c.args.start c.walk.place c.if-marks-place.left c.if-marks-place.marks c.if-marks-place.hints.items
walked c =
    let before = before_walked _ c.args.start (c.walk.place + 1) c.walk.left _ _ c.walk.invariant.1 in
    let late : c.args.start ≤ c.walk.place = omega arith in
    elim c.if-marks-place.branch [
      | then-marks-place+in-Some+in_ok-added-in-Some w ↦
          rw (w.left-is, w.marks-is, w.hints-is)
          (walked_resolve _ c.args.start c.walk.place c.walk.left w.in_ok-added-in-Some.added _ _ _ _ _ c.walk.invariant.1
          (still c w.in-Some.reason _ _ _ w.if-marks-place.true
          (λ d. ap (λ (e : TrailEntry). e.reason) (get_or_from_slice_get _ c.walk.place w.entry_at.result d w.entry_at.ensures) ∙ w.in-Some.is)
          w.in_ok-added-in-Some.ensures.marked (w.in_ok-added-in-Some.ensures.counted late)) refl
          (w.in_ok-added-in-Some.ensures.counted late)
          (w.in_ok-added-in-Some.ensures.refs c.walk.invariant.1.refs)
          (w.in_ok-added-in-Some.ensures.refuted [] (λ m has. absurd (nothing_in m has)) c.walk.invariant.1.asked c.walk.invariant.1.refuted)
          (w.in_ok-added-in-Some.ensures.asked c.walk.invariant.1.asked))
      | then-marks-place+in-None w ↦
          absurd (no_decision c w.entry_at.result w.if-marks-place.true w.entry_at.ensures w.in-None.is)
      | else-marks-place w ↦
          walked_skip _ c.args.start c.walk.place c.walk.left _ _ _ c.walk.hints.items _ c.walk.invariant.1 w.if-marks-place.false w.left-is w.marks-is (ap (λ (v : Vec ClauseRef Global). v.items) w.hints-is)
    ]

ways : (c : goal.Joined-marks-place)
    → KeepsWays c.args.self.now.graph.axioms.now c.args.self.now.graph.more.now (banned_of c.args.self.now) c.args.self.now.graph.trail.now.entries c.args.start c.args.end c.args.marks.now c.walk.place c.if-marks-place.marks
ways c = λ conflict met passed.
    let was = c.walk.invariant.2 conflict met passed in
    let before = before_walked _ c.args.start (c.walk.place + 1) c.walk.left _ _ c.walk.invariant.1 in
    let late : c.args.start ≤ c.walk.place = omega (arith, before) in
    let justified = c.requires.graph.graph.over.justified in
    let different = c.requires.graph.graph.entries.different in
    let banned = banned_of c.args.self.now in
    elim c.if-marks-place.branch [
      | then-marks-place+in-Some+in_ok-added-in-Some w ↦
          let passes : IsBannedAt banned c.args.self.now.graph.trail.now.entries c.walk.place ⊎ ((j : ℕ) × (c.args.start ≤ j) × (j ≢ c.walk.place) × IsMarked c.walk.marks j) =
          elim (many c w.if-marks-place.true) [
            | inl more ↦ inr (other_mark c.walk.marks c.args.start c.walk.place late w.if-marks-place.true (omega (arith, more, c.walk.invariant.1.left_is)))
            | inr is_banned ↦ inl is_banned
          ] in
          rw w.marks-is (
            w.in_ok-added-in-Some.ensures.met conflict was.0,
            passed_more _ _ _ _ conflict justified different banned c.args.start c.walk.place c.walk.marks was.0 passes was.1,
          )
      | then-marks-place+in-None w ↦ absurd (no_decision c w.entry_at.result w.if-marks-place.true w.entry_at.ensures w.in-None.is)
      | else-marks-place w ↦
          let other = some_mark c.walk.marks c.args.start (omega (arith, c.walk.invariant.1.left_is, c.walk.invariant.1.some)) in
          rw w.marks-is (
            met_skip _ _ _ _ conflict justified different c.walk.place c.walk.marks was.0 (λ marked. false≢true (sym w.if-marks-place.false ∙ marked)),
            passed_more _ _ _ _ conflict justified different banned c.args.start c.walk.place c.walk.marks was.0
                (inr (other.0, other.1, (λ same. false≢true (sym w.if-marks-place.false ∙ subst (IsMarked c.walk.marks) same other.2)), other.2)) was.1,
          )
    ]

pub overflow_sub-place-in-walk : goal.overflow_sub-place-in-walk
overflow_sub-place-in-walk c = omega (arith, before_walked _ c.args.start c.walk.place _ _ _ (walked c))

pub walk-smaller : goal.walk-smaller
walk-smaller c = omega (arith, before_walked _ c.args.start c.walk.place _ _ _ (walked c))

pub walk-preserved : goal.walk-preserved
walk-preserved c =
    let same : c.walk.place ≡ c.walk.place - 1 + 1 = omega (arith, before_walked _ c.args.start c.walk.place _ _ _ (walked c)) in (
      omega (arith, c.walk.invariant.0),
      walked_on _ c.args.start c.walk.place _ _ _ (walked c),
      subst
          (λ (n : ℕ). KeepsWays c.args.self.now.graph.axioms.now c.args.self.now.graph.more.now (banned_of c.args.self.now) c.args.self.now.graph.trail.now.entries c.args.start c.args.end c.args.marks.now n c.if-marks-place.marks)
          same (ways c),
    )

pub returns-clause-late : goal.returns-clause-late
returns-clause-late c = let a = before_walked _ c.args.start (c.walk.place + 1) c.walk.left _ _ c.walk.invariant.1 in omega arith

pub returns-clause-marked : goal.returns-clause-marked
returns-clause-marked c = (OnTrue_at c.walk-test.false c.is_point.ensures.ends).1

pub returns-clause-free : goal.returns-clause-free
returns-clause-free c = (OnTrue_at c.walk-test.false c.is_point.ensures.ends).2

pub returns-clause-one : goal.returns-clause-one
returns-clause-one c = let ends = OnTrue_at c.walk-test.false c.is_point.ensures.ends in omega (arith, ends.0, c.walk.invariant.1.left_is, c.walk.invariant.1.some)

pub returns-clause-met : goal.returns-clause-met
returns-clause-met c = c.walk.invariant.2
