-- A trail in which a literal that was there by a clause is there by another one.
use Rattle.std.proofs.Common.{◌≡◌, ℕ, ◌+◌, ◌<◌, zero, suc, List, [], ◌∷◌, length, get_or, set, take, slice_get, count_by, cond, is_none, refl, sym, ap, ◌∙◌, subst, arith, ⊎_elim, inl, inr, Some, None, Option, Bool, Contains, IsSome, IsNone, IfSome}
use Rattle.std.proofs.lemmas.Bool.{cases_eq}
use Rattle.std.proofs.lemmas.Option.{slice_get_within, slice_get-get_or, get_or_from_slice_get}
use Rattle.std.proofs.lemmas.List.{length-set, get_or-set_same, get_or-set_other, take-map, take_all}
use Rattle.std.proofs.lemmas.List.Sums.{sum_by-cons}
use Rattle.pc_lits.specs.declared.literal.Lit.{Lit}
use Rattle.pc_lits.specs.declared.literal.Var.{Var}
use Rattle.pc_lits.specs.Literals.{negated}
use Rattle.pc_lits.specs.Steps.{IsLastOpen}
use Rattle.pc_lits.specs.Values.{Agrees}
use Rattle.pc_propagate.specs.declared.clauses.ClauseRef.{ClauseRef}
use Rattle.pc_propagate.specs.declared.trail.TrailEntry.{TrailEntry}
use Rattle.pc_propagate.specs.declared.trail.Slot.{Slot}
use Rattle.pc_propagate.specs.Refs.{clause_at}
use Rattle.pc_propagate.specs.Entries.{falses, starts_level}
use Rattle.pc_propagate.specs.Levels.{IsEntryOfVariable, IsReasonOf, IsJustified}
use Rattle.pc_propagate.specs.TrailView.{TrailView}
use Rattle.pc_propagate.specs.Watched.{IsFalseAt, IsTrueFromStart, GuardsAt, IsGuardedAt, IsSure}
use Rattle.pc_propagate.specs.Watching.{body_at}
use Rattle.pc_propagate.specs.Over.{IsOver, IsForcedByReason}
use Rattle.pc_propagate.specs.Quiet.{WasSettled, WasQuiet}
use Rattle.pc_propagate.specs.inside.IsTrail.{IsTrail}
use Rattle.pc_propagate.specs.inside.Slots.{AreSlots}
use Rattle.pc_propagate.proofs.OverLemmas.{kept_by}

some_same : {A : Type 0} (x y : A) → ◌≡◌ {A = Option A} (Some x) (Some y) → x ≡ y
some_same x y h = cc

-- the entry with this reason
abbrev pub given : TrailEntry → ClauseRef → TrailEntry
given e reason = record { literal = e.literal; reason = Some reason }

-- ---- what stays of the entries

pub literal_same : (es : List TrailEntry) (place : ℕ) (e : TrailEntry) (reason : ClauseRef) → slice_get es place ≡ Some e → (k : ℕ) (d : TrailEntry) → (get_or (set es place (given e reason)) k d).literal ≡ (get_or es k d).literal
literal_same [] place e reason at k d = refl
literal_same (x ∷ es) zero e reason at zero d = ap (λ (y : TrailEntry). y.literal) (sym (some_same x e at))
literal_same (x ∷ es) zero e reason at (suc k) d = refl
literal_same (x ∷ es) (suc place) e reason at zero d = refl
literal_same (x ∷ es) (suc place) e reason at (suc k) d = literal_same es place e reason at k d

pub falses_same : (es : List TrailEntry) (place : ℕ) (e : TrailEntry) (reason : ClauseRef) → slice_get es place ≡ Some e → falses (set es place (given e reason)) ≡ falses es
falses_same [] place e reason at = refl
falses_same (x ∷ es) zero e reason at = ap (λ (y : TrailEntry). negated y.literal ∷ falses es) (sym (some_same x e at))
falses_same (x ∷ es) (suc place) e reason at = ap (λ (ls : List Lit). negated x.literal ∷ ls) (falses_same es place e reason at)

front_same : (es : List TrailEntry) (place : ℕ) (e : TrailEntry) (reason : ClauseRef) → slice_get es place ≡ Some e → (i : ℕ) → falses (take i (set es place (given e reason))) ≡ falses (take i es)
front_same es place e reason at i =
    let negation : TrailEntry → Lit = λ x. negated x.literal in
    sym (take-map negation i (set es place (given e reason))) ∙ ap (take i) (falses_same es place e reason at) ∙ take-map negation i es

no_start : (o : Option ClauseRef) → IsSome o → cond (is_none o) 1 0 ≡ zero
no_start (Some r) is = refl
no_start None is = absurd (cc)

abbrev one : TrailEntry → ℕ
one x = cond (starts_level x) 1 0

starts_same : (es : List TrailEntry) (place : ℕ) (e : TrailEntry) (reason : ClauseRef) → slice_get es place ≡ Some e → IsSome e.reason → (k : ℕ)
    → count_by starts_level (take k (set es place (given e reason))) ≡ count_by starts_level (take k es)
starts_same [] place e reason at some k = refl
starts_same (x ∷ es) zero e reason at some zero = refl
starts_same (x ∷ es) (suc place) e reason at some zero = refl
starts_same (x ∷ es) zero e reason at some (suc k) =
    sum_by-cons one (given e reason) (take k es) ∙ ap (λ n. n + count_by starts_level (take k es)) (sym (no_start x.reason (subst (λ (y : TrailEntry). IsSome y.reason) (sym (some_same x e at)) some)))
    ∙ sym (sum_by-cons one x (take k es))
starts_same (x ∷ es) (suc place) e reason at some (suc k) =
    omega (arith, sum_by-cons one x (take k (set es place (given e reason))), sum_by-cons one x (take k es), starts_same es place e reason at some k)

not_both : (o : Option ClauseRef) → IsSome o → IsNone o → ⊥
not_both (Some r) some none = absurd (cc)
not_both None some none = absurd (cc)

-- the reason of another entry is the same, and the entry is no decision
decision_same : (es : List TrailEntry) (place : ℕ) (e : TrailEntry) (reason : ClauseRef) → (k : ℕ) (x : TrailEntry) → slice_get (set es place (given e reason)) k ≡ Some x → IsNone x.reason → slice_get es k ≡ Some x
decision_same [] place e reason k x at none = at
decision_same (y ∷ es) zero e reason zero x at none = absurd (not_both (Some reason) refl (subst (λ (z : TrailEntry). IsNone z.reason) (sym (some_same (given e reason) x at)) none))
decision_same (y ∷ es) zero e reason (suc k) x at none = at
decision_same (y ∷ es) (suc place) e reason zero x at none = at
decision_same (y ∷ es) (suc place) e reason (suc k) x at none = decision_same es place e reason k x at none

-- ---- what holds of a trail's fields

module _ (es : List TrailEntry) (place : ℕ) (e : TrailEntry) (reason : ClauseRef) (at : slice_get es place ≡ Some e) where
  pub IsTrail-justified : (values : List (Option Bool)) (level capacity : ℕ) → IsSome e.reason → IsTrail values es level capacity → IsTrail values (set es place (given e reason)) level capacity
  IsTrail-justified values level capacity some trail = record {
    agrees = subst (Agrees values) (sym (falses_same es place e reason at)) trail.agrees;
    different = λ i j d before below. rw (literal_same es place e reason at i d, literal_same es place e reason at j d) (trail.different i j d before (omega (arith, below, length-set es place (given e reason))));
    in_range = λ k d below. rw (literal_same es place e reason at k d) (trail.in_range k d (omega (arith, below, length-set es place (given e reason))));
    counted = length-set es place (given e reason) ∙ trail.counted;
    levels = trail.levels ∙ ap (count_by starts_level) (sym (take_all (length es) es (omega arith))) ∙ sym (starts_same es place e reason at some (length es))
        ∙ ap (count_by starts_level) (take_all (length es) (set es place (given e reason)) (omega (arith, length-set es place (given e reason))));
    room = trail.room;
    small = trail.small;
  }

  pub AreSlots-justified : (slots : List Slot) (variables : ℕ) → IsSome e.reason → AreSlots slots es variables → AreSlots slots (set es place (given e reason)) variables
  AreSlots-justified slots variables some slots_are = record {
    size = slots_are.size;
    at = λ k d s below. rw (literal_same es place e reason at k d, starts_same es place e reason at some (k + 1)) (slots_are.at k d s (omega (arith, below, length-set es place (given e reason))));
  }

  -- ---- what propagation looks at

  false_same : (k : ℕ) (l : Lit) → IsFalseAt es k l → IsFalseAt (set es place (given e reason)) k l
  false_same k l is = subst (λ (ls : List Lit). slice_get ls k ≡ Some l) (sym (falses_same es place e reason at)) is

  false_was : (k : ℕ) (l : Lit) → IsFalseAt (set es place (given e reason)) k l → IsFalseAt es k l
  false_was k l is = subst (λ (ls : List Lit). slice_get ls k ≡ Some l) (falses_same es place e reason at) is

  guards_same : (l m : Lit) (k : ℕ) → IsSome e.reason → GuardsAt es l m k → GuardsAt (set es place (given e reason)) l m k
  guards_same l m k some guards is =
      let found = guards (false_was k l is) in
      (found.0, false_same found.0 (negated m) found.1, rw (starts_same es place e reason at some (found.0 + 1), starts_same es place e reason at some (k + 1)) found.2)

  guarded_same : (clause : List Lit) (l : Lit) (k : ℕ) → IsSome e.reason → IsGuardedAt es clause l k → IsGuardedAt (set es place (given e reason)) clause l k
  guarded_same clause l k some g = (g.0, g.1, guards_same l g.0 k some g.2)

  start_same : (l : Lit) → IsSome e.reason → IsTrueFromStart es l → IsTrueFromStart (set es place (given e reason)) l
  start_same l some found = (found.0, false_same found.0 (negated l) found.1, starts_same es place e reason at some (found.0 + 1) ∙ found.2)

  sure_same : (head : ℕ) (body : List Lit) → IsSome e.reason → IsSure es head body → IsSure (set es place (given e reason)) head body
  sure_same head body some h = ⊎_elim
      (λ good. inl (good.0, good.1, start_same good.0 some good.2))
      (λ w. inr (
        w.0,
        record {
          apart = w.1.apart;
          has_first = w.1.has_first;
          has_second = w.1.has_second;
          first = λ k below. guarded_same body _ k some (w.1.first k below);
          second = λ k below. guarded_same body _ k some (w.1.second k below);
        },
      ))
      h

  -- ---- its reason justifies each literal

  forced_same : (axioms more : List (List Lit)) (attached : List ClauseRef) → Contains attached reason → IsLastOpen negated (falses (take place es)) (clause_at axioms more reason) e.literal
      → ((i : ℕ) (d : TrailEntry) → i < length es → IsForcedByReason axioms more attached (take i es) (get_or es i d))
      → (i : ℕ) (d : TrailEntry) → i < length (set es place (given e reason)) → IsForcedByReason axioms more attached (take i (set es place (given e reason))) (get_or (set es place (given e reason)) i d)
  forced_same axioms more attached has last old i d below =
      subst (λ (fs : List Lit). Forced fs (get_or (set es place (given e reason)) i d)) (sym (front_same es place e reason at i)) (⊎_elim
      (λ same. subst (λ (x : TrailEntry). Forced (falses (take i es)) x)
      (sym (ap (λ n. get_or (set es place (given e reason)) n d) same ∙ get_or-set_same es place (given e reason) d (slice_get_within es place e at)))
      (has, subst (λ n. IsLastOpen negated (falses (take n es)) (clause_at axioms more reason) e.literal) (sym same) last))
      (λ other. subst (λ (x : TrailEntry). Forced (falses (take i es)) x) (sym (get_or-set_other es place i (given e reason) d other)) (old i d (omega (arith, below, length-set es place (given e reason)))))
      (cases_eq i place))
    where
      Forced : List Lit → TrailEntry → Type 0
      Forced fs x = IfSome x.reason (λ r. Contains attached r × IsLastOpen negated fs (clause_at axioms more r) x.literal)

pub over_justified : (axioms more : List (List Lit)) (variable : Var) (reason : ClauseRef) (old new : TrailView) → IsJustified variable reason old new
    → (place : ℕ) (is : IsEntryOfVariable old.entries variable place) → IsOver axioms more old → Contains old.attached reason → IsLastOpen negated (falses (take place old.entries)) (clause_at axioms more reason) is.entry.literal
    → IsOver axioms more new
over_justified axioms more variable reason old new h place is over has last = rw h.is (record {
  stand = over.stand;
  in_range = over.in_range;
  justified = forced_same old.entries h.place h.entry reason h.at axioms more old.attached has here over.justified;
  kept = record {
    bodies = over.kept.bodies;
    waiting = over.kept.waiting;
    propagated = omega (arith, over.kept.propagated, length-set old.entries h.place (given h.entry reason));
    same = over.kept.same;
    kept = λ n below. ⊎_elim (λ out. inl out)
        (λ kept. inr (kept_by old (record old { entries = set old.entries h.place (given h.entry reason) }) old.watching.head old.watching.head n (λ waits. waits)
        (λ sure. sure_same old.entries h.place h.entry reason h.at old.watching.head (body_at old.watching n) h.implied sure) kept))
        (over.kept.kept n below);
  };
})
  where
    there : h.place ≡ place
    there = is.alone h.place h.entry (slice_get_within old.entries h.place h.entry h.at) (ap (λ (x : TrailEntry). x.literal.variable.0) (get_or_from_slice_get old.entries h.place h.entry h.entry h.at) ∙ h.is_of)

    same_entry : is.entry ≡ h.entry
    same_entry = some_same is.entry h.entry (sym is.at ∙ ap (slice_get old.entries) (sym there) ∙ h.at)

    here : IsLastOpen negated (falses (take h.place old.entries)) (clause_at axioms more reason) h.entry.literal
    here = rw there (subst (λ (x : TrailEntry). IsLastOpen negated (falses (take place old.entries)) (clause_at axioms more reason) x.literal) same_entry last)

-- ---- decisions stay

settled_justified : (es : List TrailEntry) (place : ℕ) (e : TrailEntry) (reason : ClauseRef) (clause : List Lit) → slice_get es place ≡ Some e → WasSettled es clause → WasSettled (set es place (given e reason)) clause
settled_justified es place e reason clause at old k x decided none =
    rw (front_same es place e reason at k) (old k x (decision_same es place e reason k x decided none) none)

pub quiet_justified : (axioms more : List (List Lit)) (variable : Var) (reason : ClauseRef) (old new : TrailView) → IsJustified variable reason old new → WasQuiet axioms more old → WasQuiet axioms more new
quiet_justified axioms more variable reason old new h was =
    rw h.is (λ k d below. settled_justified old.entries h.place h.entry reason (clause_at axioms more (get_or old.attached k d)) h.at (was k d below))

-- ---- the call

pub read_entry : (es : List TrailEntry) (v : Var) (place : ℕ) (e : TrailEntry) → IsEntryOfVariable es v place → e ≡ get_or es place e → slice_get es place ≡ Some e
read_entry es v place e is read = slice_get-get_or es place e (slice_get_within es place is.entry is.at) ∙ ap Some (sym read)

pub read_implied : (es : List TrailEntry) (v : Var) (place : ℕ) (e : TrailEntry) → IsEntryOfVariable es v place → e ≡ get_or es place e → ((before : ClauseRef) × IsReasonOf es v (Some before)) → IsSome e.reason
read_implied es v place e is read had =
    let was : IsReasonOf es v (Some had.0) = had.1 in
    let old : IsEntryOfVariable es v was.0 = was.1 in
    let there : was.0 ≡ place =
    is.alone was.0 old.entry (slice_get_within es was.0 old.entry old.at) (ap (λ (x : TrailEntry). x.literal.variable.0) (get_or_from_slice_get es was.0 old.entry old.entry old.at) ∙ old.is_of) in
    let same : old.entry ≡ e = some_same old.entry e (sym old.at ∙ ap (slice_get es) there ∙ read_entry es v place e is read) in
    subst (λ (x : TrailEntry). IsSome x.reason) same (subst (λ (o : Option ClauseRef). IsSome o) (sym was.2) refl)

pub is_justified : (variable : Var) (reason : ClauseRef) (old new : TrailView) (place : ℕ) (e : TrailEntry) → IsEntryOfVariable old.entries variable place → e ≡ get_or old.entries place e
    → ((before : ClauseRef) × IsReasonOf old.entries variable (Some before)) → new ≡ record old { entries = set old.entries place (given e reason) } → IsJustified variable reason old new
is_justified variable reason old new place e is read had same = record {
  place = place;
  entry = e;
  at = read_entry old.entries variable place e is read;
  is_of = ap (λ (x : TrailEntry). x.literal.variable.0) (some_same e is.entry (sym (read_entry old.entries variable place e is read) ∙ is.at)) ∙ is.is_of;
  implied = read_implied old.entries variable place e is read had;
  is = same;
}
