-- Looks at the watches of a literal, one after another.
use Rattle.std.proofs.Common.{◌≡◌, ◌≢◌, ℕ, ◌+◌, ◌-◌, ◌*◌, ◌/◌, ◌%◌, ◌<◌, ◌≤◌, inl, inr, Bool, true, false, cond, List, [], ◌∷◌, ◌++◌, Some, IsSome, length, get_or, set, slice_get, refl, sym, ap, ◌∙◌, subst, arith, ⊎_elim, Contains}
use Rattle.std.specs.List.{swap, swap_remove}
use Rattle.std.proofs.lemmas.Bool.{cases_Bool, cases_eq, cases_lt}
use Rattle.std.proofs.lemmas.Option.{slice_get_within, slice_get_read, get_or_from_slice_get, same_Some}
use Rattle.std.proofs.lemmas.List.{length-set, get_or-set_same, get_or-set_other, get_or-take, get_or_default, get_or_past, map_push}
use Rattle.std.proofs.lemmas.List.Elements.{Contains-push}
use Rattle.pc_lits.specs.declared.literal.Lit.{Lit}
use Rattle.pc_lits.specs.Literals.{negated}
use Rattle.pc_lits.specs.Steps.{AreFalse, IsLastOpen}
use Rattle.pc_lits.proofs.LitLemmas.{same_lit, same_parts, lit_from_same, other_lit}
use Rattle.pc_propagate.specs.declared.watch_lists.Watch.{Watch}
use Rattle.pc_propagate.specs.Bodies.{body_in}
use Rattle.pc_propagate.specs.Listed.{WatchedView, no_literal, code_of, literal_of, watchers, IsShifted}
use Rattle.pc_propagate.proofs.ElementLemmas.{size_left, swap_from, swap_still, get_set, get_set_other}
use Rattle.pc_propagate.specs.declared.clauses.ClauseRef.{ClauseRef}
use Rattle.pc_propagate.specs.declared.clauses.ClauseRef.TheVariants.{Axiom}
use Rattle.pc_propagate.specs.declared.trail.TrailEntry.{TrailEntry}
use Rattle.pc_propagate.specs.Refs.{clause_at}
use Rattle.pc_propagate.specs.Entries.{falses}
use Rattle.pc_propagate.specs.TrailView.{TrailView}
use Rattle.pc_propagate.specs.Over.{IsOver}
use Rattle.pc_propagate.specs.Watching.{body_at}
use Rattle.pc_propagate.specs.Watched.{IsFalseAt, IsOfLastLevel, IsSure, IsPending, IsKept, HasLiteralsOf, attached_clause}
use Rattle.pc_propagate.specs.inside.Steady.{AreAllListed, AreFalseBeside, HasComeToWait, IsBlocked, IsOpenBeside, IsThrough, WaitsAlone}
use Rattle.pc_propagate.proofs.PlaceLemmas.{false_at_within, contains_false_at}
use Rattle.pc_propagate.proofs.GuardLemmas.{false_at-append, last_stays}
use Rattle.pc_propagate.proofs.KeptLemmas.{sure_less, sure_another, sure_by_true, sure_shifted}
use Rattle.pc_propagate.proofs.OverLemmas.{based, kept_by, kept_grown, literal_in_range}
use Rattle.pc_propagate.proofs.TurnLemmas.{Contains-from_slice_get}
use Rattle.pc_propagate.proofs.WalkLemmas.{alone_over}

-- the clause of a watch is kept as far as one entry more, where one of its literals is true
pub kept_by_true : (axioms more : List (List Lit)) (trail : TrailView) (lit m : Lit) (n : ℕ) → IsOver axioms more trail → IsFalseAt trail.entries trail.watching.head lit → IsOfLastLevel trail.entries trail.watching.head
    → n < length trail.watching.watched.bodies → Contains (body_at trail.watching n) m → Contains (falses trail.entries) (negated m) → IsKept trail (trail.watching.head + 1) n
kept_by_true axioms more trail lit m n h at last within has is_true =
    kept_by trail trail trail.watching.head (trail.watching.head + 1) n (λ waits. waits)
    (λ sure. sure_by_true trail.entries trail.watching.head (body_at trail.watching n) lit m at last has is_true sure)
    (⊎_elim (λ out. absurd out) (λ kept. kept) (h.kept.kept n (omega (arith, within, h.kept.bodies))))

pub through_at_first : (lit : Lit) (trail : TrailView) → IsFalseAt trail.entries trail.watching.head lit → IsOfLastLevel trail.entries trail.watching.head → IsThrough lit 0 trail
through_at_first lit trail at last = record { at = at; last = last; within = omega arith; passed = λ j w below. absurd (omega (arith, below)) }

-- one watch further
pub through_next : (lit : Lit) (index : ℕ) (trail : TrailView) (w : Watch) → IsThrough lit index trail → slice_get (watchers trail.watching.watched lit) index ≡ Some w
    → (literal_of trail.watching.watched.bodies w.place ≡ lit → IsKept trail (trail.watching.head + 1) (w.place / 2)) → IsThrough lit (index + 1) trail
through_next lit index trail w h is kept = record {
  at = h.at;
  last = h.last;
  within = omega (arith, slice_get_within (watchers trail.watching.watched lit) index w is);
  passed = λ j v below there own. ⊎_elim
      (λ before. h.passed j v before there own)
      (λ after.
      let here : j ≡ index = omega (arith, below, after) in
      let same : w ≡ v = same_Some w v (sym is ∙ ap (slice_get (watchers trail.watching.watched lit)) (sym here) ∙ there) in
      subst (λ (x : Watch). IsKept trail (trail.watching.head + 1) (x.place / 2)) same (kept (ap (λ (x : Watch). literal_of trail.watching.watched.bodies x.place) same ∙ own)))
      (cases_lt j index);
}

-- a list with a watch is there
list_within : (lists : List (List Watch)) (c index : ℕ) (w : Watch) → slice_get (get_or lists c []) index ≡ Some w → c < length lists
list_within lists c index w is = ⊎_elim (λ inside. inside)
    (λ past. absurd (nothing (ap (λ (ws : List Watch). slice_get ws index) (sym (get_or_past lists c [] past)) ∙ is)))
    (cases_lt c (length lists))
  where
    nothing : slice_get {X = Watch} [] index ≡ Some w → ⊥
    nothing is = cc is

-- ---- another blocker

pub over_blocked : (axioms more : List (List Lit)) (lit : Lit) (index : ℕ) (w : Watch) (blocker : Lit) (old new : TrailView) → IsBlocked lit index w blocker old new → IsOver axioms more old → IsOver axioms more new
over_blocked axioms more lit index w blocker old new is h =
    subst (IsOver axioms more) (sym is) (record {
      stand = h.stand;
      in_range = h.in_range;
      justified = h.justified;
      kept = record { bodies = h.kept.bodies; waiting = h.kept.waiting; propagated = h.kept.propagated; same = h.kept.same; kept = h.kept.kept };
    })

-- the watches of the literal are the same but for one blocker
blocked_watchers : (lit : Lit) (index : ℕ) (w : Watch) (blocker : Lit) (old new : TrailView) → IsBlocked lit index w blocker old new → slice_get (watchers old.watching.watched lit) index ≡ Some w
    → watchers new.watching.watched lit ≡ set (watchers old.watching.watched lit) index (record { place = w.place; blocker = blocker })
blocked_watchers lit index w blocker old new is there =
    ap (λ (t : TrailView). watchers t.watching.watched lit) is
    ∙ get_or-set_same old.watching.watched.lists (code_of lit) (set (watchers old.watching.watched lit) index (record { place = w.place; blocker = blocker })) []
    (list_within old.watching.watched.lists (code_of lit) index w there)

pub blocked_size : (lit : Lit) (index : ℕ) (w : Watch) (blocker : Lit) (old new : TrailView) → IsBlocked lit index w blocker old new → slice_get (watchers old.watching.watched lit) index ≡ Some w
    → length (watchers new.watching.watched lit) ≡ length (watchers old.watching.watched lit)
blocked_size lit index w blocker old new is there =
    ap length (blocked_watchers lit index w blocker old new is there) ∙ length-set (watchers old.watching.watched lit) index (record { place = w.place; blocker = blocker })

pub through_blocked : (lit : Lit) (index : ℕ) (w : Watch) (blocker : Lit) (old new : TrailView) → IsBlocked lit index w blocker old new → slice_get (watchers old.watching.watched lit) index ≡ Some w
    → IsKept old (old.watching.head + 1) (w.place / 2) → IsThrough lit index old → IsThrough lit (index + 1) new
through_blocked lit index w blocker old new is there kept h = record {
  at = rw is h.at;
  last = rw is h.last;
  within = omega (arith, slice_get_within (watchers old.watching.watched lit) index w there, blocked_size lit index w blocker old new is there);
  passed = λ j v below at own. still (v.place / 2) (⊎_elim
      (λ here. subst (λ (p : ℕ). IsKept old (old.watching.head + 1) (p / 2)) (sym (place_is j v here at)) kept)
      (λ other. h.passed j v (omega (arith, below, other)) (elsewhere j v other at) (sym (ap (λ (t : TrailView). literal_of t.watching.watched.bodies v.place) is) ∙ own))
      (cases_eq j index));
}
  where
    still : (n : ℕ) → IsKept old (old.watching.head + 1) n → IsKept new (new.watching.head + 1) n
    still n k = subst (λ (t : TrailView). IsKept t (t.watching.head + 1) n) (sym is) k

    at_new : (j : ℕ) (v : Watch) → slice_get (watchers new.watching.watched lit) j ≡ Some v → slice_get (set (watchers old.watching.watched lit) index (record { place = w.place; blocker = blocker })) j ≡ Some v
    at_new j v at = ap (λ (ws : List Watch). slice_get ws j) (sym (blocked_watchers lit index w blocker old new is there)) ∙ at

    place_is : (j : ℕ) (v : Watch) → j ≡ index → slice_get (watchers new.watching.watched lit) j ≡ Some v → v.place ≡ w.place
    place_is j v here at = ap (λ (x : Watch). x.place) (same_Some v (record { place = w.place; blocker = blocker })
        (sym (at_new j v at) ∙ ap (slice_get (set (watchers old.watching.watched lit) index (record { place = w.place; blocker = blocker }))) here
        ∙ get_set (watchers old.watching.watched lit) index (record { place = w.place; blocker = blocker }) (slice_get_within (watchers old.watching.watched lit) index w there)))

    elsewhere : (j : ℕ) (v : Watch) → j ≢ index → slice_get (watchers new.watching.watched lit) j ≡ Some v → slice_get (watchers old.watching.watched lit) j ≡ Some v
    elsewhere j v other at = sym (get_set_other (watchers old.watching.watched lit) index j (record { place = w.place; blocker = blocker }) other) ∙ at_new j v at

-- ---- another literal

-- literals in the same list are the same
code_same : (a b : Lit) → code_of a ≡ code_of b → a ≡ b
code_same a b same = by a.sign b.sign refl refl
  where
    by : (s t : Bool) → a.sign ≡ s → b.sign ≡ t → a ≡ b
    by s t p q = signs s t p q (ap (λ (x : Bool). 2 * a.variable.0 + cond x 1 0) (sym p) ∙ same ∙ ap (λ (x : Bool). 2 * b.variable.0 + cond x 1 0) q)
      where
        signs : (s t : Bool) → a.sign ≡ s → b.sign ≡ t → 2 * a.variable.0 + cond s 1 0 ≡ 2 * b.variable.0 + cond t 1 0 → a ≡ b
        signs true true p q e = same_parts a b (omega (arith, e)) (p ∙ sym q)
        signs false false p q e = same_parts a b (omega (arith, e)) (p ∙ sym q)
        signs true false p q e = absurd (omega (arith, e))
        signs false true p q e = absurd (omega (arith, e))

-- what stands before the element that leaves stays where it is
left_before : {X : Type 0} (xs : List X) (i j : ℕ) (d v : X) → i < length xs → j < i → slice_get (swap_remove xs i d) j ≡ Some v → slice_get xs j ≡ Some v
left_before xs i j d v within before is =
    let read : get_or (set xs i (get_or xs (length xs - 1) d)) j v ≡ v =
    sym (get_or-take (length xs - 1) (set xs i (get_or xs (length xs - 1) d)) j v (omega (arith, within, before))) ∙ get_or_from_slice_get (swap_remove xs i d) j v v is in
    slice_get_read xs (length xs) j v refl (omega (arith, within, before)) (sym (sym (get_or-set_other xs i j (get_or xs (length xs - 1) d) v (λ same. omega (arith, same, before))) ∙ read))

-- there are as many lists as before
pub shifted_lists : (c index k : ℕ) (w : Watch) (blocker : Lit) (old new : WatchedView) → IsShifted c index k w blocker old new → length new.lists ≡ length old.lists
shifted_lists c index k w blocker old new s =
    let list : List (List Watch) = set old.lists c (swap_remove (get_or old.lists c []) index w) in
    let to : ℕ = code_of (get_or (body_in old.bodies (w.place / 2)) k no_literal) in
    ap length (s.lists list to refl refl) ∙ length-set list to (get_or list to [] ++ record { place = w.place; blocker = blocker } ∷ []) ∙ length-set old.lists c (swap_remove (get_or old.lists c []) index w)

-- the place of a watch of the literal has taken up another one of its clause
pub record HasShifted (lit : Lit) (index k : ℕ) (w : Watch) (blocker : Lit) (old new : TrailView) : Type 0 where
  pub there : slice_get (watchers old.watching.watched lit) index ≡ Some w
  pub number : w.place / 2 < length old.watching.watched.bodies
  pub own : get_or (body_at old.watching (w.place / 2)) (w.place % 2) no_literal ≡ lit
  pub goes : IsOpenBeside (falses old.entries) (body_at old.watching (w.place / 2)) (get_or (body_at old.watching (w.place / 2)) (1 - w.place % 2) no_literal) k
  pub shifted : IsShifted (code_of lit) index k w blocker old.watching.watched new.watching.watched
  pub same : new ≡ record old { watching = record old.watching { watched = new.watching.watched } }

module _ (axioms more : List (List Lit)) (lit : Lit) (index k : ℕ) (w : Watch) (blocker : Lit) (old new : TrailView) (h : IsOver axioms more old) (t : IsThrough lit index old) (s : HasShifted lit index k w blocker old new) where
  own_within : w.place % 2 < length (body_at old.watching (w.place / 2))
  own_within = omega (arith, s.goes.behind, s.goes.within)

  body_here : body_at new.watching (w.place / 2) ≡ swap (body_at old.watching (w.place / 2)) (w.place % 2) k
  body_here = ap (λ (bs : List (List Lit)). body_in bs (w.place / 2)) s.shifted.bodies
      ∙ get_or-set_same old.watching.watched.bodies (w.place / 2) (swap (body_at old.watching (w.place / 2)) (w.place % 2) k) [] s.number

  body_other : (n : ℕ) → n ≢ w.place / 2 → body_at new.watching n ≡ body_at old.watching n
  body_other n other = ap (λ (bs : List (List Lit)). body_in bs n) s.shifted.bodies
      ∙ get_or-set_other old.watching.watched.bodies (w.place / 2) n (swap (body_at old.watching (w.place / 2)) (w.place % 2) k) [] other

  entries_same : new.entries ≡ old.entries
  entries_same = ap (λ (x : TrailView). x.entries) s.same

  attached_same : new.attached ≡ old.attached
  attached_same = ap (λ (x : TrailView). x.attached) s.same

  head_same : new.watching.head ≡ old.watching.head
  head_same = ap (λ (x : TrailView). x.watching.head) s.same

  stays : (n : ℕ) → IsPending old n → IsPending new n
  stays n waits = rw (ap (λ (x : TrailView). x.watching.waiting) s.same) waits

  -- the clause of the watch, and the others
  kept_here : IsKept new (old.watching.head + 1) (w.place / 2)
  kept_here = kept_by old new old.watching.head (old.watching.head + 1) (w.place / 2) (stays (w.place / 2))
      (λ sure. rw entries_same (sure_shifted old.entries old.watching.head (body_at old.watching (w.place / 2)) (body_at new.watching (w.place / 2)) (w.place % 2) k lit (get_or (body_at old.watching (w.place / 2)) (1 - w.place % 2) no_literal)
      t.at (omega arith) s.own refl s.goes.behind s.goes.within s.goes.open_at s.goes.apart body_here sure))
      (⊎_elim (λ out. absurd out) (λ kept. kept) (h.kept.kept (w.place / 2) (omega (arith, s.number, h.kept.bodies))))

  kept_other : (head n : ℕ) → n ≢ w.place / 2 → IsKept old head n → IsKept new head n
  kept_other head n other kept = kept_by old new head head n (stays n) (λ sure. rw (entries_same, body_other n other) sure) kept

  kept_all : (n : ℕ) → n < length old.attached → IsKept new old.watching.head n
  kept_all n below = ⊎_elim
      (λ here. subst (IsKept new old.watching.head) (sym here)
      (kept_by new new (old.watching.head + 1) old.watching.head (w.place / 2) (λ waits. waits) (λ sure. sure_less new.entries (old.watching.head + 1) old.watching.head (body_at new.watching (w.place / 2)) (omega arith) sure) kept_here))
      (λ other. kept_other old.watching.head n other (⊎_elim (λ out. absurd out) (λ kept. kept) (h.kept.kept n below)))
      (cases_eq n (w.place / 2))

  literals_all : (n : ℕ) → n < length old.attached → HasLiteralsOf (attached_clause axioms more old n) (body_at new.watching n)
  literals_all n below = ⊎_elim
      (λ here. subst (λ (m : ℕ). HasLiteralsOf (attached_clause axioms more old m) (body_at new.watching m)) (sym here) (rw body_here (record {
        from = λ l has. (h.kept.same (w.place / 2) (omega (arith, s.number, h.kept.bodies))).from l (swap_from (body_at old.watching (w.place / 2)) (w.place % 2) k l own_within s.goes.within has);
        all = λ l has. swap_still (body_at old.watching (w.place / 2)) (w.place % 2) k l own_within s.goes.within ((h.kept.same (w.place / 2) (omega (arith, s.number, h.kept.bodies))).all l has);
      })))
      (λ other. rw (body_other n other) (h.kept.same n below))
      (cases_eq n (w.place / 2))

  pub over_shifted : IsOver axioms more new
  over_shifted = record {
    stand = rw attached_same h.stand;
    in_range = rw (attached_same, ap (λ (x : TrailView). x.variables) s.same) h.in_range;
    justified = rw (attached_same, entries_same) h.justified;
    kept = record {
      bodies = omega (arith, ap length s.shifted.bodies, length-set old.watching.watched.bodies (w.place / 2) (swap (body_at old.watching (w.place / 2)) (w.place % 2) k), h.kept.bodies, ap length attached_same);
      waiting = omega (arith, ap (λ (x : TrailView). length x.watching.waiting) s.same, h.kept.waiting, ap length attached_same);
      propagated = omega (arith, head_same, ap length entries_same, h.kept.propagated);
      same = λ n below. rw attached_same (literals_all n (omega (arith, below, ap length attached_same)));
      kept = λ n below. inr (subst (λ (head : ℕ). IsKept new head n) (sym head_same) (kept_all n (omega (arith, below, ap length attached_same))));
    };
  }

  -- the literal that the place takes up isn't the one that it had
  apart : code_of lit ≢ code_of (get_or (body_at old.watching (w.place / 2)) k no_literal)
  apart same = s.goes.open_at (subst (Contains (falses old.entries)) (code_same lit (get_or (body_at old.watching (w.place / 2)) k no_literal) same) (contains_false_at old.entries old.watching.head lit t.at))

  watchers_left : watchers new.watching.watched lit ≡ swap_remove (watchers old.watching.watched lit) index w
  watchers_left =
      let list : List (List Watch) = set old.watching.watched.lists (code_of lit) (swap_remove (watchers old.watching.watched lit) index w) in
      let to : ℕ = code_of (get_or (body_at old.watching (w.place / 2)) k no_literal) in
      ap (λ (ls : List (List Watch)). get_or ls (code_of lit) []) (s.shifted.lists list to refl refl)
      ∙ get_or-set_other list to (code_of lit) (get_or list to [] ++ record { place = w.place; blocker = blocker } ∷ []) [] apart
      ∙ get_or-set_same old.watching.watched.lists (code_of lit) (swap_remove (watchers old.watching.watched lit) index w) [] (list_within old.watching.watched.lists (code_of lit) index w s.there)

  pub shifted_size : length (watchers new.watching.watched lit) < length (watchers old.watching.watched lit)
  shifted_size = omega (arith, ap length watchers_left, size_left (watchers old.watching.watched lit) index w (slice_get_within (watchers old.watching.watched lit) index w s.there))

  pub through_shifted : IsThrough lit index new
  through_shifted = record {
    at = rw (entries_same, head_same) t.at;
    last = rw (entries_same, head_same) t.last;
    within = omega (arith, ap length watchers_left, size_left (watchers old.watching.watched lit) index w (slice_get_within (watchers old.watching.watched lit) index w s.there), slice_get_within (watchers old.watching.watched lit) index w s.there);
    passed = λ j v below at own. subst (λ (head : ℕ). IsKept new (head + 1) (v.place / 2)) (sym head_same) (⊎_elim
        (λ here. subst (IsKept new (old.watching.head + 1)) (sym here) kept_here)
        (λ other. kept_other (old.watching.head + 1) (v.place / 2) other
        (t.passed j v below
        (left_before (watchers old.watching.watched lit) index j w v (slice_get_within (watchers old.watching.watched lit) index w s.there) below (ap (λ (ws : List Watch). slice_get ws j) (sym watchers_left) ∙ at))
        (ap (λ (b : List Lit). get_or b (v.place % 2) no_literal) (sym (body_other (v.place / 2) other)) ∙ own)))
        (cases_eq (v.place / 2) (w.place / 2)));
  }

-- ---- one more entry

-- an entry makes its literal true
pub true_pushed : (entries : List TrailEntry) (e : TrailEntry) → Contains (falses (entries ++ e ∷ [])) (negated e.literal)
true_pushed entries e = rw (map_push (λ (x : TrailEntry). negated x.literal) entries e) (Contains-push (falses entries) (negated e.literal))

pub through_grown : (lit : Lit) (index : ℕ) (old new : TrailView) (e : TrailEntry) → IsSome e.reason → new ≡ record old { entries = old.entries ++ e ∷ [] } → IsThrough lit index old → IsThrough lit index new
through_grown lit index old new e reason is h =
    let early : old.watching.head < length old.entries = false_at_within old.entries old.watching.head lit h.at in
    record {
      at = rw is (false_at-append old.entries (e ∷ []) old.watching.head lit h.at);
      last = rw is (last_stays old.entries e old.watching.head early reason h.last);
      within = rw is h.within;
      passed = λ j w below at own. subst (λ (head : ℕ). IsKept new (head + 1) (w.place / 2)) (sym (ap (λ (x : TrailView). x.watching.head) is))
          (kept_grown old new (e ∷ []) (old.watching.head + 1) (w.place / 2) (ap (λ (x : TrailView). x.entries) is) (ap (λ (x : TrailView). x.watching) is) (omega (arith, early))
          (h.passed j w below (sym (ap (λ (x : TrailView). slice_get (watchers x.watching.watched lit) j) is) ∙ at) (sym (ap (λ (x : TrailView). literal_of x.watching.watched.bodies w.place) is) ∙ own)));
    }

-- ---- the clause of a watch

-- the clause that the reference of an attached one names
pub literals_named : (axioms more : List (List Lit)) (trail : TrailView) (n : ℕ) (reference : ClauseRef) → IsOver axioms more trail → slice_get trail.attached n ≡ Some reference
    → HasLiteralsOf (clause_at axioms more reference) (body_at trail.watching n)
literals_named axioms more trail n reference h at =
    subst (λ (clause : List Lit). HasLiteralsOf clause (body_at trail.watching n)) (ap (clause_at axioms more) (get_or_from_slice_get trail.attached n reference (Axiom 0) at))
    (h.kept.same n (slice_get_within trail.attached n reference at))

pub named_in_range : (axioms more : List (List Lit)) (trail : TrailView) (n : ℕ) (reference : ClauseRef) (l : Lit) → IsOver axioms more trail → slice_get trail.attached n ≡ Some reference → Contains (body_at trail.watching n) l
    → l.variable.0 < trail.variables
named_in_range axioms more trail n reference l h at has =
    literal_in_range axioms more trail reference l (based axioms more trail h) (Contains-from_slice_get trail.attached n reference at) ((literals_named axioms more trail n reference h at).from l has)

-- where all other literals of a clause are false, it is false, or this one is the last
pub all_false : (falses clause body : List Lit) (last : Lit) → HasLiteralsOf clause body → ((m : Lit) → Contains body m → m ≢ last → Contains falses m) → Contains falses last → AreFalse negated falses clause
all_false falses clause body last h others is_false m has = ⊎_elim
    (λ yes. subst (Contains falses) (sym (lit_from_same m last yes)) is_false)
    (λ no. others m (h.all m has) (other_lit m last no))
    (cases_Bool (same_lit m last))

pub last_open : (falses clause body : List Lit) (last : Lit) → HasLiteralsOf clause body → Contains body last → ((m : Lit) → Contains body m → m ≢ last → Contains falses m) → (Contains falses last → ⊥) → IsLastOpen negated falses clause last
last_open falses clause body last h stands others not_false = (h.from last stands, not_false, λ m has other. others m (h.all m has) other)

-- the literals behind the first two are false but for the second of these, and so is the first
pub others_false : (falses body : List Lit) (lit other : Lit) (own : ℕ) → own < 2 → get_or body own no_literal ≡ lit → Contains falses lit → get_or body (1 - own) no_literal ≡ other → AreFalseBeside falses body other
    → (m : Lit) → Contains body m → m ≢ other → Contains falses m
others_false falses body lit other own one own_is is_false other_is behind m has differs =
    let read : get_or body has.0 no_literal ≡ m = get_or_default body has.0 no_literal m has.1 ∙ has.2 in
    ⊎_elim
    (λ here. subst (Contains falses) (sym own_is ∙ ap (λ (k : ℕ). get_or body k no_literal) (sym here) ∙ read) is_false)
    (λ not_own. ⊎_elim
    (λ there. absurd (differs (sym read ∙ ap (λ (k : ℕ). get_or body k no_literal) there ∙ other_is)))
    (λ not_other. subst (Contains falses) read (behind has.0 (omega (arith, one, not_own, not_other)) has.1 (λ same. differs (sym read ∙ same))))
    (cases_eq has.0 (1 - own)))
    (cases_eq has.0 own)

-- the place of a watch has another literal than this one
pub not_own : (bodies : List (List Lit)) (place : ℕ) (body : List Lit) (d lit : Lit) → body ≡ body_in bodies (place / 2) → 2 ≤ length (body_in bodies (place / 2)) → (get_or body (place % 2) d ≡ lit → ⊥) → literal_of bodies place ≡ lit → ⊥
not_own bodies place body d lit is long other own =
    other (ap (λ (b : List Lit). get_or b (place % 2) d) is ∙ get_or_default (body_in bodies (place / 2)) (place % 2) d no_literal (omega (arith, long)) ∙ own)

-- where the literal beside that of the place is true, the clause is kept as far as one entry more
pub kept_beside : (axioms more : List (List Lit)) (trail : TrailView) (lit : Lit) (place : ℕ) (body : List Lit) (d : Lit) → IsOver axioms more trail → IsFalseAt trail.entries trail.watching.head lit
    → IsOfLastLevel trail.entries trail.watching.head → place / 2 < length trail.watching.watched.bodies → body ≡ body_at trail.watching (place / 2) → 2 ≤ length (body_at trail.watching (place / 2))
    → Contains (falses trail.entries) (negated (get_or body (1 - place % 2) d)) → IsKept trail (trail.watching.head + 1) (place / 2)
kept_beside axioms more trail lit place body d h at last within is long is_true =
    kept_by_true axioms more trail lit (get_or body (1 - place % 2) d) (place / 2) h at last within
    (subst (λ (b : List Lit). Contains b (get_or body (1 - place % 2) d)) is
    (1 - place % 2, omega (arith, ap length is, long), get_or_default body (1 - place % 2) (get_or body (1 - place % 2) d) d (omega (arith, ap length is, long))))
    is_true

-- where none of the literals behind the first two may take its place, all but the one beside it are false
pub others_false_at : (bodies : List (List Lit)) (falses : List Lit) (place : ℕ) (body : List Lit) (d e lit : Lit) → body ≡ body_in bodies (place / 2) → 2 ≤ length (body_in bodies (place / 2)) → get_or body (place % 2) d ≡ lit → Contains falses lit
    → AreFalseBeside falses body (get_or body (1 - place % 2) e) → (m : Lit) → Contains (body_in bodies (place / 2)) m → m ≢ get_or body (1 - place % 2) e → Contains falses m
others_false_at bodies falses place body d e lit is long own is_false behind m has =
    others_false falses body lit (get_or body (1 - place % 2) e) (place % 2) (omega arith)
    (get_or_default body (place % 2) no_literal d (omega (arith, ap length is, long)) ∙ own) is_false
    (get_or_default body (1 - place % 2) no_literal e (omega (arith, ap length is, long))) behind m (subst (λ (b : List Lit). Contains b m) (sym is) has)

pub has_shifted : (lit : Lit) (index k : ℕ) (w : Watch) (blocker : Lit) (old new : TrailView) (body : List Lit) (d e : Lit) → body ≡ body_at old.watching (w.place / 2) → 2 ≤ length (body_at old.watching (w.place / 2))
    → slice_get (watchers old.watching.watched lit) index ≡ Some w → w.place / 2 < length old.watching.watched.bodies → get_or body (w.place % 2) d ≡ lit
    → IsOpenBeside (falses old.entries) body (get_or body (1 - w.place % 2) e) k → IsShifted (code_of lit) index k w blocker old.watching.watched new.watching.watched
    → new ≡ record old { watching = record old.watching { watched = new.watching.watched } } → HasShifted lit index k w blocker old new
has_shifted lit index k w blocker old new body d e is long there number own goes shifted same = record {
  there = there;
  number = number;
  own = get_or_default (body_at old.watching (w.place / 2)) (w.place % 2) no_literal d (omega (arith, long)) ∙ ap (λ (b : List Lit). get_or b (w.place % 2) d) (sym is) ∙ own;
  goes = subst (λ (o : Lit). IsOpenBeside (falses old.entries) (body_at old.watching (w.place / 2)) o k) (get_or_default (body_at old.watching (w.place / 2)) (1 - w.place % 2) e no_literal (omega (arith, long)))
      (subst (λ (b : List Lit). IsOpenBeside (falses old.entries) b (get_or b (1 - w.place % 2) e) k) is goes);
  shifted = shifted;
  same = same;
}

-- the last literal of the clause became true, and is the blocker
pub through_implied : (axioms more : List (List Lit)) (lit : Lit) (index : ℕ) (w : Watch) (last : Lit) (reference : ClauseRef) (old mid new : TrailView)
    → mid ≡ record old { entries = old.entries ++ record { literal = last; reason = Some reference } ∷ [] } → IsBlocked lit index w last mid new → IsOver axioms more mid → IsThrough lit index old
    → slice_get (watchers old.watching.watched lit) index ≡ Some w → w.place / 2 < length old.watching.watched.bodies → Contains (body_at old.watching (w.place / 2)) last
    → IsThrough lit (index + 1) new × (length (watchers new.watching.watched lit) ≤ length (watchers old.watching.watched lit))
through_implied axioms more lit index w last reference old mid new is blocked over h there number stands =
    let e : TrailEntry = record { literal = last; reason = Some reference } in
    let grown = through_grown lit index old mid e refl is h in
    let still : slice_get (watchers mid.watching.watched lit) index ≡ Some w = rw is there in
    let kept = kept_by_true axioms more mid lit last (w.place / 2) over grown.at grown.last (rw is number) (rw is stands) (rw is (true_pushed old.entries e)) in (
      through_blocked lit index w last mid new blocked still kept grown,
      omega (arith, blocked_size lit index w last mid new blocked still, ap (λ (t : TrailView). length (watchers t.watching.watched lit)) is),
    )

-- ---- all watches

-- once all watches of the literal were looked at, each clause is kept as far as one entry more
pub all_kept : (axioms more : List (List Lit)) (trail : TrailView) (lit : Lit) → IsOver axioms more trail → IsFalseAt trail.entries trail.watching.head lit → AreAllListed trail.watching.watched
    → ((j : ℕ) (w : Watch) → slice_get (watchers trail.watching.watched lit) j ≡ Some w → literal_of trail.watching.watched.bodies w.place ≡ lit → IsKept trail (trail.watching.head + 1) (w.place / 2))
    → (n : ℕ) → n < length trail.attached → IsKept trail (trail.watching.head + 1) n
all_kept axioms more trail lit h at listed passed n below = ⊎_elim (λ out. absurd out)
    (λ kept. ⊎_elim
    (λ waits. inl waits)
    (λ sure. by_sure sure)
    kept)
    (h.kept.kept n below)
  where
    by_place : (place : ℕ) → place / 2 ≡ n → 2 ≤ length (body_at trail.watching n) → literal_of trail.watching.watched.bodies place ≡ lit → IsKept trail (trail.watching.head + 1) n
    by_place place half long own =
        let found = listed place (omega (arith, half, below, h.kept.bodies)) (subst (λ (m : ℕ). 2 ≤ length (body_at trail.watching m)) (sym half) long) in
        let there : slice_get (watchers trail.watching.watched lit) found.0 ≡ Some found.1 = ap (λ (l : Lit). slice_get (watchers trail.watching.watched l) found.0) (sym own) ∙ found.2 in
        subst (IsKept trail (trail.watching.head + 1)) (ap (λ (p : ℕ). p / 2) found.3 ∙ half)
        (passed found.0 found.1 there (ap (literal_of trail.watching.watched.bodies) found.3 ∙ own))

    literal_at : (place i : ℕ) → place / 2 ≡ n → place % 2 ≡ i → get_or (body_at trail.watching n) i no_literal ≡ lit → literal_of trail.watching.watched.bodies place ≡ lit
    literal_at place i half rest own = ap (λ (m : ℕ). get_or (body_at trail.watching m) (place % 2) no_literal) half ∙ ap (λ (m : ℕ). get_or (body_at trail.watching n) m no_literal) rest ∙ own

    by_sure : IsSure trail.entries trail.watching.head (body_at trail.watching n) → IsKept trail (trail.watching.head + 1) n
    by_sure sure = ⊎_elim
        (λ good. inr (inl good))
        (λ w. ⊎_elim
        (λ first. by_place (2 * n) (omega arith) w.0 (literal_at (2 * n) 0 (omega arith) (omega arith) (lit_from_same (get_or (body_at trail.watching n) 0 no_literal) lit first)))
        (λ not_first. ⊎_elim
        (λ second. by_place (2 * n + 1) (omega arith) w.0 (literal_at (2 * n + 1) 1 (omega arith) (omega arith) (lit_from_same (get_or (body_at trail.watching n) 1 no_literal) lit second)))
        (λ not_second. inr (sure_another trail.entries trail.watching.head (body_at trail.watching n) lit at
        (other_lit (get_or (body_at trail.watching n) 0 no_literal) lit not_first) (other_lit (get_or (body_at trail.watching n) 1 no_literal) lit not_second) (inr w)))
        (cases_Bool (same_lit (get_or (body_at trail.watching n) 1 no_literal) lit)))
        (cases_Bool (same_lit (get_or (body_at trail.watching n) 0 no_literal) lit)))
        sure

-- where each of the watches was looked at
pub walked_kept : (axioms more : List (List Lit)) (lit : Lit) (count index : ℕ) (old new : TrailView) → IsOver axioms more new → IsThrough lit index new → count ≡ length (watchers new.watching.watched lit) → count ≤ index
    → new.watching.head ≡ old.watching.head → AreAllListed new.watching.watched → (n : ℕ) → n < length new.attached → IsKept new (old.watching.head + 1) n
walked_kept axioms more lit count index old new over h count_is all head listed n below =
    subst (λ (k : ℕ). IsKept new (k + 1) n) head
    (all_kept axioms more new lit over h.at listed (λ j w there own. h.passed j w (omega (arith, slice_get_within (watchers new.watching.watched lit) j w there, count_is, all)) there own) n below)

-- ---- all clauses that watch a literal come to wait

pub record HaveWaited (lit : Lit) (index : ℕ) (old new : TrailView) : Type 0 where
  pub alone : WaitsAlone old new
  pub stay : (n : ℕ) → IsPending old n → IsPending new n
  pub passed : (j : ℕ) (w : Watch) → j < index → slice_get (watchers old.watching.watched lit) j ≡ Some w → IsPending new (w.place / 2)

pub waited_none : (lit : Lit) (trail : TrailView) → HaveWaited lit 0 trail trail
waited_none lit trail = record {
  alone = record { variables = refl; entries = refl; attached = refl; watched = refl; head = refl; size = refl };
  stay = λ n waits. waits;
  passed = λ j w below. absurd (omega (arith, below));
}

-- the watch is the same in both
pub waited_at : (lit : Lit) (index : ℕ) (old a : TrailView) (w : Watch) → WaitsAlone old a → slice_get (watchers a.watching.watched lit) index ≡ Some w → slice_get (watchers old.watching.watched lit) index ≡ Some w
waited_at lit index old a w alone is = ap (λ (ws : WatchedView). slice_get (watchers ws lit) index) (sym alone.watched) ∙ is

pub waited_step : (lit : Lit) (index : ℕ) (old a b : TrailView) (w : Watch) → HaveWaited lit index old a → slice_get (watchers a.watching.watched lit) index ≡ Some w → w.place / 2 < length a.watching.waiting → HasComeToWait (w.place / 2) a b
    → HaveWaited lit (index + 1) old b
waited_step lit index old a b w h is within come = record {
  alone = record {
    variables = come.alone.variables ∙ h.alone.variables;
    entries = come.alone.entries ∙ h.alone.entries;
    attached = come.alone.attached ∙ h.alone.attached;
    watched = come.alone.watched ∙ h.alone.watched;
    head = come.alone.head ∙ h.alone.head;
    size = come.alone.size ∙ h.alone.size;
  };
  stay = λ n waits. come.stay n (h.stay n waits);
  passed = λ j v below there. ⊎_elim
      (λ before. come.stay (v.place / 2) (h.passed j v before there))
      (λ after.
      let here : index ≡ j = omega (arith, below, after) in
      let same : w ≡ v = same_Some w v (sym (waited_at lit index old a w h.alone is) ∙ ap (slice_get (watchers old.watching.watched lit)) here ∙ there) in
      subst (λ (x : Watch). IsPending b (x.place / 2)) same (come.waits within))
      (cases_lt j index);
}

-- a clause of a watch is attached
pub watch_attached : (axioms more : List (List Lit)) (old a : TrailView) (n : ℕ) → IsOver axioms more old → WaitsAlone old a → n < length a.watching.watched.bodies → n < length a.watching.waiting
watch_attached axioms more old a n h alone within = omega (arith, within, ap (λ (ws : WatchedView). length ws.bodies) alone.watched, h.kept.bodies, h.kept.waiting, alone.size)

pub waited_over : (axioms more : List (List Lit)) (lit : Lit) (index : ℕ) (old new : TrailView) → HaveWaited lit index old new → IsOver axioms more old → IsOver axioms more new
waited_over axioms more lit index old new h over = alone_over axioms more old new h.alone h.stay over

pub waited_kept : (axioms more : List (List Lit)) (lit : Lit) (count index : ℕ) (old new : TrailView) → HaveWaited lit index old new → count ≡ length (watchers old.watching.watched lit) → count ≤ index → IsOver axioms more old
    → IsFalseAt old.entries old.watching.head lit → AreAllListed new.watching.watched → (n : ℕ) → n < length new.attached → IsKept new (old.watching.head + 1) n
waited_kept axioms more lit count index old new h count_is all over at listed n below =
    subst (λ (head : ℕ). IsKept new (head + 1) n) h.alone.head
    (all_kept axioms more new lit (waited_over axioms more lit index old new h over) (rw (h.alone.entries, h.alone.head) at) listed
    (λ j w there own.
    let was = waited_at lit j old new w h.alone there in
    inl (h.passed j w (omega (arith, slice_get_within (watchers old.watching.watched lit) j w was, count_is, all)) was))
    n below)
