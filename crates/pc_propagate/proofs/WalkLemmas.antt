-- Looks at clauses that wait, one after another.
use Rattle.std.proofs.Common.{◌≡◌, ◌≢◌, ℕ, ◌<◌, ◌≤◌, inl, inr, List, [], ◌∷◌, ◌++◌, Option, Some, None, IsSome, IfSome, is_some, Bool, not, false, zero, suc, length, get_or, set, refl, sym, ap, ◌∙◌, subst, arith, ⊎_elim, Contains, All, AllPairs, length-append}
use Rattle.std.proofs.lemmas.Bool.{cases_eq, false≢true}
use Rattle.std.proofs.lemmas.List.{length-set, get_or-set_same, get_or-set_other, get_or_default}
use Rattle.std.proofs.lemmas.List.Elements.{All-push}
use Rattle.pc_lits.specs.declared.literal.Lit.{Lit}
use Rattle.pc_lits.specs.declared.tally.Tally.{Tally}
use Rattle.pc_propagate.specs.Listed.{WatchedView}
use Rattle.pc_propagate.specs.declared.trail.TrailEntry.{TrailEntry}
use Rattle.pc_propagate.specs.declared.propagation.Turn.{Turn}
use Rattle.pc_propagate.specs.declared.propagation.Turn.TheVariants.{Settled, Moved, Conflict, Spent}
use Rattle.pc_propagate.specs.declared.clauses.ClauseRef.{ClauseRef}
use Rattle.pc_propagate.specs.declared.clauses.ClauseRef.TheVariants.{Axiom}
use Rattle.pc_propagate.specs.Refs.{clause_at}
use Rattle.pc_propagate.specs.Counts.{CountsPlaced}
use Rattle.pc_propagate.specs.Entries.{Differ}
use Rattle.pc_propagate.specs.TrailView.{TrailView}
use Rattle.pc_propagate.specs.Propagation.{Propagates, IsSettled}
use Rattle.pc_propagate.specs.Over.{IsBased, IsOver}
use Rattle.pc_propagate.specs.Watching.{Watching, body_at, wait_at}
use Rattle.pc_propagate.specs.Watched.{IsSure, IsPending, IsKept, AreKeptBut, attached_clause}
use Rattle.pc_propagate.specs.inside.Steady.{HasComeToWait, WaitsAlone, IsReconsidered, IsSteady}
use Rattle.pc_propagate.specs.inside.Turns.{HasMoved, ClauseTurn, VisitTurn, WalkTurn, PendingTurn, RoundTurn}
use Rattle.pc_propagate.proofs.CountLemmas.{count_in, count_taken, count_no_more}
use Rattle.pc_propagate.proofs.KeptLemmas.{sure_settles}
use Rattle.pc_propagate.proofs.OverLemmas.{based, over_from, based_same, kept_by, pending_by}
use Rattle.pc_propagate.proofs.TurnLemmas.{Propagates-none, Propagates-trans}

-- the same entries and clauses, wherever propagation looks
pub grows_on : (a b c : TrailView) (x y : Tally) → Propagates a b x y → c.variables ≡ b.variables → c.entries ≡ b.entries → c.attached ≡ b.attached → Propagates a c x y
grows_on a b c x y h variables entries attached = record {
  variables = variables ∙ h.variables;
  attached = attached ∙ h.attached;
  more = h.more;
  entries = entries ∙ h.entries;
  by_clauses = h.by_clauses;
  by_attached = h.by_attached;
  counted = h.counted;
}

-- nothing changed but where propagation looks
pub grows_watching : (old new : TrailView) (watched : WatchedView) (x : Tally) → new ≡ record old { watching = record old.watching { watched = watched } } → Propagates old new x x
grows_watching old new watched x same =
    grows_on old old new x x (Propagates-none old x) (ap (λ (t : TrailView). t.variables) same) (ap (λ (t : TrailView). t.entries) same) (ap (λ (t : TrailView). t.attached) same)

-- an entry with a reason came
pub grows_pushed : (old mid new : TrailView) (before after : Tally) (e : TrailEntry) → mid ≡ record old { entries = old.entries ++ e ∷ [] } → CountsPlaced before after 1 → IsSome e.reason → IfSome e.reason (λ r. Contains old.attached r)
    → new.variables ≡ mid.variables → new.entries ≡ mid.entries → new.attached ≡ mid.attached → Propagates old new before after
grows_pushed old mid new before after e is counted reason attached_reason variables entries attached = record {
  variables = variables ∙ ap (λ (t : TrailView). t.variables) is;
  attached = attached ∙ ap (λ (t : TrailView). t.attached) is;
  more = e ∷ [];
  entries = entries ∙ ap (λ (t : TrailView). t.entries) is;
  by_clauses = All-push (λ (x : TrailEntry). IsSome x.reason) [] e (λ k d below. absurd (omega (arith, below))) reason;
  by_attached = All-push (λ (x : TrailEntry). IfSome x.reason (λ r. Contains old.attached r)) [] e (λ k d below. absurd (omega (arith, below))) attached_reason;
  counted = counted;
}

-- nothing changed but which clauses wait
pub grows_alone : (old new : TrailView) (x : Tally) → WaitsAlone old new → Propagates old new x x
grows_alone old new x alone = grows_on old old new x x (Propagates-none old x) alone.variables alone.entries alone.attached

pub alone_over : (axioms more : List (List Lit)) (old new : TrailView) → WaitsAlone old new → ((n : ℕ) → IsPending old n → IsPending new n) → IsOver axioms more old → IsOver axioms more new
alone_over axioms more old new alone stay h = over_from axioms more new (based_same axioms more old new alone.variables alone.entries alone.attached (based axioms more old h)) (record {
  bodies = rw (alone.watched, alone.attached) h.kept.bodies;
  waiting = omega (arith, alone.size, ap length alone.attached, h.kept.waiting);
  propagated = omega (arith, alone.head, ap length alone.entries, h.kept.propagated);
  same = λ n below. rw (alone.watched, alone.attached) (h.kept.same n (omega (arith, below, ap length alone.attached)));
  kept = λ n below. ⊎_elim (λ out. inl out)
      (λ kept. inr (subst (λ (k : ℕ). IsKept new k n) (sym alone.head)
      (kept_by old new old.watching.head old.watching.head n (stay n) (λ sure. rw (alone.entries, alone.watched) sure) kept)))
      (h.kept.kept n (omega (arith, below, ap length alone.attached)));
})

-- a clause comes to wait, or waits already
pub come_waits : (number : ℕ) (old new : TrailView) → wait_at old.watching number ≡ None → new ≡ record old { watching = record old.watching { waiting = set old.watching.waiting number (Some 0) } } → HasComeToWait number old new
come_waits number old new free is = record {
  alone = rw is (record { variables = refl; entries = refl; attached = refl; watched = refl; head = refl; size = length-set old.watching.waiting number (Some 0) });
  waits = λ within. inl (rw is (get_or-set_same old.watching.waiting number (Some 0) None within));
  stay = λ n waits. ⊎_elim
      (λ here. absurd (⊎_elim (λ next. differ n here 0 next) (λ present. differ n here 1 present) waits))
      (λ other. pending_by old new n (rw is (get_or-set_other old.watching.waiting number n (Some 0) None other)) waits)
      (cases_eq n number);
}
  where
    differ : (n : ℕ) → n ≡ number → (list : ℕ) → wait_at old.watching n ≡ Some list → ⊥
    differ n here list is = let e : wait_at old.watching n ≡ None = ap (wait_at old.watching) here ∙ free in absurd (cc (e, is))

pub waits_already : (number count : ℕ) (trail : TrailView) (list : Option ℕ) (free : Bool) → list ≡ wait_at trail.watching number → IfSome list (λ l. l < count) → count ≡ 2 → is_some list ≡ not free → free ≡ false
    → HasComeToWait number trail trail
waits_already number count trail None free is few two some fails = absurd (false≢true (some ∙ ap not fails))
waits_already number count trail (Some list) free is few two some fails = record {
  alone = record { variables = refl; entries = refl; attached = refl; watched = refl; head = refl; size = refl };
  waits = λ within. ⊎_elim
      (λ next. inl (sym is ∙ ap Some next))
      (λ other. inr (sym is ∙ ap Some (let e : list ≡ 1 = omega (arith, few, two, other) in e)))
      (cases_eq list 0);
  stay = λ n waits. waits;
}

-- ---- a look at a clause

-- a clause is taken out of those that wait
abbrev IsTaken : ℕ → TrailView → TrailView → Type 0
IsTaken number old new = new ≡ record old { watching = record old.watching { waiting = set old.watching.waiting number None } }

taken_other : (old new : TrailView) (number n : ℕ) → IsTaken number old new → n ≢ number → wait_at new.watching n ≡ wait_at old.watching n
taken_other old new number n is other = rw is (get_or-set_other old.watching.waiting number n None None other)

pub taken_but : (axioms more : List (List Lit)) (old new : TrailView) (number : ℕ) → IsTaken number old new → IsOver axioms more old → AreKeptBut (λ n. n ≡ number) axioms more new
taken_but axioms more old new number is h = record {
  bodies = rw is h.kept.bodies;
  waiting = rw is (length-set old.watching.waiting number None ∙ h.kept.waiting);
  propagated = rw is h.kept.propagated;
  same = λ n below. rw is (h.kept.same n (omega (arith, below, ap (λ (t : TrailView). length t.attached) is)));
  kept = λ n below. ⊎_elim (λ here. inl here)
      (λ other. inr (⊎_elim (λ out. absurd out)
      (λ kept. subst (λ (k : ℕ). IsKept new k n) (sym (ap (λ (t : TrailView). t.watching.head) is))
      (kept_by old new old.watching.head old.watching.head n (pending_by old new n (taken_other old new number n is other)) (λ sure. rw is sure) kept))
      (h.kept.kept n (omega (arith, below, ap (λ (t : TrailView). length t.attached) is)))))
      (cases_eq n number);
}

pub taken_based : (axioms more : List (List Lit)) (old new : TrailView) (number : ℕ) → IsTaken number old new → IsOver axioms more old → IsBased axioms more new
taken_based axioms more old new number is h =
    based_same axioms more old new (ap (λ (t : TrailView). t.variables) is) (ap (λ (t : TrailView). t.entries) is) (ap (λ (t : TrailView). t.attached) is) (based axioms more old h)

-- a clause that is kept or waits again
pub reconsidered_over : (axioms more : List (List Lit)) (number : ℕ) (old new : TrailView) → IsReconsidered number old new → IsBased axioms more old → AreKeptBut (λ n. n ≡ number) axioms more old → IsOver axioms more new
reconsidered_over axioms more number old new r based h = over_from axioms more new (based_same axioms more old new r.alone.variables r.alone.entries r.alone.attached based) (record {
  bodies = rw (r.alone.watched, r.alone.attached) h.bodies;
  waiting = omega (arith, r.alone.size, ap length r.alone.attached, h.waiting);
  propagated = omega (arith, r.alone.head, ap length r.alone.entries, h.propagated);
  same = λ n below. rw (r.alone.watched, r.alone.attached) (h.same n (omega (arith, below, ap length r.alone.attached)));
  kept = λ n below. inr (⊎_elim
      (λ here. subst (IsKept new new.watching.head) (sym here) (r.kept new.watching.head))
      (λ other. ⊎_elim (λ here. absurd (other here))
      (λ kept. subst (λ (k : ℕ). IsKept new k n) (sym r.alone.head)
      (kept_by old new old.watching.head old.watching.head n (pending_by old new n (r.others n other)) (λ sure. rw (r.alone.entries, r.alone.watched) sure) kept))
      (h.kept n (omega (arith, below, ap length r.alone.attached))))
      (cases_eq n number));
})

pub reconsidered_steady : (number : ℕ) (old mid new : TrailView) → mid.watching ≡ old.watching → IsReconsidered number mid new → IsSteady number old new
reconsidered_steady number old mid new same r = record {
  head = r.alone.head ∙ ap (λ (w : Watching). w.head) same;
  size = r.alone.size ∙ ap (λ (w : Watching). length w.waiting) same;
  others = λ n other. r.others n other ∙ ap (λ (w : Watching). wait_at w n) same;
  calm = r.calm;
}

-- what a look at a clause came to
pub visit_turn : (axioms more : List (List Lit)) (number : ℕ) (reference : ClauseRef) (old mid new : TrailView) (tally : Tally) (turn : Turn) → get_or old.attached number (Axiom 0) ≡ reference
    → WaitsAlone mid new → mid.attached ≡ old.attached → ClauseTurn axioms more reference old mid tally turn → VisitTurn axioms more number old new tally turn
visit_turn axioms more number reference old mid new tally Settled at r attached h = (
  r.entries ∙ ap (λ (t : TrailView). t.entries) h.0,
  rw (r.entries, ap (clause_at axioms more) (ap (λ (rs : List ClauseRef). get_or rs number (Axiom 0)) (r.attached ∙ attached) ∙ at)) h.1,
)
visit_turn axioms more number reference old mid new tally Moved at r attached h = (omega (arith, h.0, ap length r.entries), omega (arith, h.1, ap length r.entries, r.variables))
visit_turn axioms more number reference old mid new tally (Conflict c) at r attached h = rw (r.attached, r.entries) h
visit_turn axioms more number reference old mid new tally Spent at r attached h = rw (r.attached, r.entries) h

-- it needs no look, or waits again
pub reconsidered_kept : (number : ℕ) (trail : TrailView) → wait_at trail.watching number ≡ None → ((head : ℕ) → IsSure trail.entries head (body_at trail.watching number)) → IsReconsidered number trail trail
reconsidered_kept number trail free sure = record {
  alone = record { variables = refl; entries = refl; attached = refl; watched = refl; head = refl; size = refl };
  others = λ n other. refl;
  calm = λ waits. absurd (cc (free, waits));
  kept = λ head. inr (sure head);
}

pub reconsidered_waits : (number : ℕ) (old new : TrailView) → number < length old.watching.waiting → new ≡ record old { watching = record old.watching { waiting = set old.watching.waiting number (Some 0) } } → IsReconsidered number old new
reconsidered_waits number old new within is = record {
  alone = rw is (record { variables = refl; entries = refl; attached = refl; watched = refl; head = refl; size = length-set old.watching.waiting number (Some 0) });
  others = λ n other. rw is (get_or-set_other old.watching.waiting number n (Some 0) None other);
  calm = λ waits. absurd (differ (wait_at new.watching number) now waits);
  kept = λ head. inl (inl now);
}
  where
    now : wait_at new.watching number ≡ Some 0
    now = rw is (get_or-set_same old.watching.waiting number (Some 0) None within)

    differ : (o : Option ℕ) → o ≡ Some 0 → o ≡ Some 1 → ⊥
    differ o one other = let e : zero ≡ suc zero = cc (one, other) in omega (arith, e)

-- ---- looks at all clauses that wait

-- a clause leaves those that are still to be looked at, and none comes to them
pub steady_smaller : (number : ℕ) (a b d : TrailView) → number < length a.watching.waiting → wait_at a.watching number ≡ Some 1 → IsTaken number a b → IsSteady number b d
    → count_in 1 d.watching.waiting < count_in 1 a.watching.waiting
steady_smaller number a b d within at taken steady =
    let lists : b.watching.waiting ≡ set a.watching.waiting number None = ap (λ (t : TrailView). t.watching.waiting) taken in
    let no_more = count_no_more 1 b.watching.waiting d.watching.waiting (sym steady.size) (λ k has. ⊎_elim
    (λ here. absurd (steady.calm (ap (wait_at d.watching) (sym here) ∙ has)))
    (λ other. sym (steady.others k other) ∙ has)
    (cases_eq k number)) in
    omega (arith, no_more, ap (count_in 1) lists, count_taken 1 a.watching.waiting number within at)

pub grows_step : (x a b d : TrailView) (number : ℕ) (p q r : Tally) → Propagates x a p q → IsTaken number a b → Propagates b d q r → Propagates x d p r
grows_step x a b d number p q r first taken second =
    Propagates-trans x b d p q r (grows_on x a b p q first (ap (λ (t : TrailView). t.variables) taken) (ap (λ (t : TrailView). t.entries) taken) (ap (λ (t : TrailView). t.attached) taken)) second

pub head_step : (x a b d : TrailView) (number : ℕ) → a.watching.head ≡ x.watching.head → IsTaken number a b → d.watching.head ≡ b.watching.head → d.watching.head ≡ x.watching.head
head_step x a b d number first taken second = second ∙ ap (λ (t : TrailView). t.watching.head) taken ∙ first

-- what looks at clauses that wait came to so far
abbrev pub PendingSoFar : List (List Lit) → List (List Lit) → TrailView → TrailView → Turn → Type 0
PendingSoFar axioms more old new Settled = (new.entries ≡ old.entries) × ((n : ℕ) → n < length new.attached → wait_at new.watching n ≡ Some 0 → IsSettled new.entries (attached_clause axioms more new n))
PendingSoFar axioms more old new Moved = HasMoved old new
PendingSoFar axioms more old new (Conflict c) = ⊥
PendingSoFar axioms more old new Spent = ⊥

pub pending_step : (axioms more : List (List Lit)) (number : ℕ) (old a b d : TrailView) (turn : Turn) → PendingSoFar axioms more old a turn → IsTaken number a b
    → IsSteady number b d → d.variables ≡ b.variables → d.attached ≡ b.attached → d.entries ≡ b.entries → IsSettled d.entries (attached_clause axioms more d number) → PendingSoFar axioms more old d turn
pending_step axioms more number old a b d Settled h taken steady variables attached entries settled =
    let same : b.entries ≡ a.entries = ap (λ (t : TrailView). t.entries) taken in
    let same_attached : b.attached ≡ a.attached = ap (λ (t : TrailView). t.attached) taken in (
      entries ∙ same ∙ h.0,
      λ n below next. ⊎_elim
          (λ here. subst (λ (k : ℕ). IsSettled d.entries (attached_clause axioms more d k)) (sym here) settled)
          (λ other.
          let waited : wait_at a.watching n ≡ Some 0 = sym (steady.others n other ∙ taken_other a b number n taken other) ∙ next in
          rw (entries, same, attached, same_attached) (h.1 n (omega (arith, below, ap length attached, ap length same_attached)) waited))
          (cases_eq n number),
    )
pending_step axioms more number old a b d Moved h taken steady variables attached entries settled =
    let same : b.entries ≡ a.entries = ap (λ (t : TrailView). t.entries) taken in
    (omega (arith, h.0, ap length same, ap length entries), omega (arith, h.1, ap length same, ap length entries, variables, ap (λ (t : TrailView). t.variables) taken))
pending_step axioms more number old a b d (Conflict c) h taken steady variables attached entries settled = h
pending_step axioms more number old a b d Spent h taken steady variables attached entries settled = h

pub moved_step : (x a b d : TrailView) (number : ℕ) (p q : Tally) → Propagates x a p q → IsTaken number a b → HasMoved b d → HasMoved x d
moved_step x a b d number p q grows taken moved =
    (omega (arith, moved.0, ap (λ (t : TrailView). length t.entries) taken, ap length grows.entries, length-append x.entries grows.more), moved.1)

pub pending_returns : (axioms more : List (List Lit)) (old mid a b : TrailView) (tally : Tally) (turn : Turn) → WaitsAlone old mid → PendingSoFar axioms more mid a turn → b ≡ a
    → ((n : ℕ) → wait_at a.watching n ≢ Some 1) → PendingTurn axioms more old b tally turn
pending_returns axioms more old mid a b tally turn alone h same none = subst (λ (t : TrailView). PendingTurn axioms more old t tally turn) (sym same) (by turn h)
  where
    by : (turn : Turn) → PendingSoFar axioms more mid a turn → PendingTurn axioms more old a tally turn
    by Settled h = (h.0 ∙ alone.entries, λ n below waits. ⊎_elim (λ next. h.1 n below next) (λ present. absurd (none n present)) waits)
    by Moved h = (omega (arith, h.0, ap length alone.entries), h.1)
    by (Conflict c) h = absurd h
    by Spent h = absurd h

-- ---- rounds

-- one entry more is propagated
pub advanced : (axioms more : List (List Lit)) (old new : TrailView) (head : ℕ) → new ≡ record old { watching = record old.watching { head = head } } → head ≤ length old.entries
    → ((n : ℕ) → n < length old.attached → IsKept old head n) → IsOver axioms more old → IsOver axioms more new
advanced axioms more old new head is within kept h =
    subst (IsOver axioms more) (sym is) (record {
      stand = h.stand;
      in_range = h.in_range;
      justified = h.justified;
      kept = record { bodies = h.kept.bodies; waiting = h.kept.waiting; propagated = within; same = h.kept.same; kept = λ n below. inr (kept n below) };
    })

-- once all entries are propagated, all clauses are settled
pub all_settled : (axioms more : List (List Lit)) (trail : TrailView) → AllPairs Differ trail.entries → IsOver axioms more trail → trail.watching.head ≡ length trail.entries
    → ((n : ℕ) → n < length trail.attached → IsPending trail n → IsSettled trail.entries (attached_clause axioms more trail n)) → All (λ r. IsSettled trail.entries (clause_at axioms more r)) trail.attached
all_settled axioms more trail different h head pending_settled i d below =
    subst (IsSettled trail.entries) (ap (clause_at axioms more) (get_or_default trail.attached i (Axiom 0) d below))
    (⊎_elim (λ out. absurd out)
    (λ kept. ⊎_elim
    (λ waits. pending_settled i below waits)
    (λ sure. sure_settles trail.entries (attached_clause axioms more trail i) (body_at trail.watching i) different (h.kept.same i below)
    (subst (λ (k : ℕ). IsSure trail.entries k (body_at trail.watching i)) head sure))
    kept)
    (h.kept.kept i below))

-- a round's looks at the clauses that wait
pub round_turn : (axioms more : List (List Lit)) (old mid new : TrailView) (x y z : Tally) (turn : Turn) → Propagates old mid x y → mid.watching.head ≡ length mid.entries → new.watching.head ≡ mid.watching.head → AllPairs Differ new.entries
    → IsOver axioms more new → PendingTurn axioms more mid new z turn → RoundTurn axioms more old new z turn
round_turn axioms more old mid new x y z Settled grows through head different over h = all_settled axioms more new different over (head ∙ through ∙ ap length (sym h.0)) h.1
round_turn axioms more old mid new x y z Moved grows through head different over h = (omega (arith, h.0, ap length grows.entries, length-append old.entries grows.more), h.1)
round_turn axioms more old mid new x y z (Conflict c) grows through head different over h = h
round_turn axioms more old mid new x y z Spent grows through head different over h = h

-- looks that ended before their end
pub walk_other : (P Q : Type 0) (axioms more : List (List Lit)) (new : TrailView) (tally : Tally) (turn : Turn) → WalkTurn P axioms more new tally turn → (turn ≡ Settled → ⊥) → WalkTurn Q axioms more new tally turn
walk_other P Q axioms more new tally Settled h not_settled = absurd (not_settled refl)
walk_other P Q axioms more new tally Moved h not_settled = absurd h
walk_other P Q axioms more new tally (Conflict c) h not_settled = h
walk_other P Q axioms more new tally Spent h not_settled = h
