-- A clause that may be the reason of a literal: it was settled at each decision, and its other literals were false before.
use Rattle.std.proofs.Common.{◌≡◌, ◌≢◌, ℕ, ◌+◌, ◌<◌, ◌≤◌, Bool, true, false, not, List, [], length, get_or, set, slice_get, take, refl, sym, ap, ◌∙◌, subst, arith, ⊎_elim, inl, inr, Some, None, Option, IsNone, IfSome, is_some, AllPairs, Contains}
use Rattle.std.proofs.lemmas.Bool.{cases_eq, cases_lt, false≢true}
use Rattle.std.proofs.Math.Bool.{beq}
use Rattle.std.proofs.lemmas.Option.{slice_get_within, slice_get-get_or, get_or_from_slice_get}
use Rattle.std.proofs.lemmas.List.{get_or-take, get_or-set_same, get_or-set_other, length-take, length-set}
use Rattle.pc_lits.specs.declared.literal.Lit.{Lit}
use Rattle.pc_lits.specs.declared.literal.Var.{Var}
use Rattle.pc_lits.specs.Literals.{negated}
use Rattle.pc_lits.specs.Steps.{IsLastOpen}
use Rattle.pc_lits.proofs.LitLemmas.{same_parts}
use Rattle.pc_propagate.specs.declared.clauses.ClauseRef.{ClauseRef}
use Rattle.pc_propagate.specs.declared.trail.TrailEntry.{TrailEntry}
use Rattle.pc_propagate.specs.Entries.{falses, HasValue, Differ}
use Rattle.pc_propagate.specs.Levels.{level_at, IsEntryOfVariable, IsLevelOf, IsReasonOf, IsJustified}
use Rattle.pc_propagate.specs.Over.{IsOver}
use Rattle.pc_propagate.specs.Propagation.{IsSettled}
use Rattle.pc_propagate.specs.Quiet.{QuietIsKept, WasSettled}
use Rattle.pc_propagate.specs.TrailView.{TrailView}
use Rattle.pc_propagate.specs.Watched.{IsFalseAt}
use Rattle.pc_propagate.proofs.PlaceLemmas.{false_at_within, false_at_is, false_at_contains, contains_false_at, false_before, false_at_before, false_still, false_at_unique, place_is, known_by_false, not_both}
use Rattle.pc_propagate.proofs.GuardLemmas.{true_settles}
use Rattle.pc_propagate.proofs.JustifyLemmas.{literal_same, given}
use Rattle.pc_analyze.proofs.LevelLemmas.{level_at-below, level_at-le, decision_level}
use Rattle.pc_analyze.proofs.NewLemmas.{two_open}
use Rattle.pc_log.specs.Lines.{LogLine}
use Rattle.pc_propagate.specs.declared.clauses.ClauseRef.TheVariants.{More}
use Rattle.pc_propagate.specs.Refs.{clause_at}
use Rattle.pc_solver.specs.Clauses.{ClausesView, KeepsProblem, IsKnown, IsStanding, blank}
use Rattle.pc_solver.specs.InLog.{IsLogOf}
use Rattle.pc_solver.specs.inside.Reasons.{IsFalseBefore, AreFalseBefore, IsReasonFor, KeepsReason}
use Rattle.pc_solver.specs.inside.Search.{SearchView, IsSearch, KeepsTrail}
use Rattle.pc_solver.proofs.ClauseLemmas.{default}
use Rattle.pc_solver.proofs.LearnLemmas.{logs_known}
use Rattle.pc_solver.proofs.PrepareLemmas.{next_problem}

different_take : (entries : List TrailEntry) (n : ℕ) → AllPairs Differ entries → AllPairs Differ (take n entries)
different_take entries n different i j d before below =
    let inside : j < n = omega (arith, below, length-take n entries) in
    rw (get_or-take n entries i d (omega (arith, before, inside)), get_or-take n entries j d inside) (different i j d before (omega (arith, below, length-take n entries)))

-- ---- the clause was settled

pub reason_settled : (entries : List TrailEntry) (clause : List Lit) (l : Lit) → AllPairs Differ entries → Contains clause l → IsReasonFor entries clause l → WasSettled entries clause
reason_settled entries clause l different has h p e at decided =
    ⊎_elim
    (λ (early : h.place < p). true_settles (take p entries) clause l (different_take entries p different) has (false_before entries p h.place (negated l) early h.at))
    (λ late. ⊎_elim
    (λ start. absurd (omega (arith, level_at-le entries p h.place (omega (arith, late)) inside, decision_level entries p e within starts, start)))
    (λ other. open_both late other.0 other.1 other.2 other.3 other.4 other.5)
    h.in_time)
    (cases_lt h.place p)
  where
    within : p < length entries
    within = slice_get_within entries p e at

    inside : h.place < length entries
    inside = false_at_within entries h.place (negated l) h.at

    starts : IsNone (get_or entries p e).reason
    starts = subst (λ (x : TrailEntry). IsNone x.reason) (sym (get_or_from_slice_get entries p e e at)) decided

    open_one : Contains (falses (take p entries)) l → ⊥
    open_one is_false = not_both entries l different (false_still entries p l is_false) (contains_false_at entries h.place (negated l) h.at)

    open_both : p ≤ h.place → (m : Lit) (k : ℕ) → Contains clause m → m ≢ l → IsFalseAt entries k m → level_at entries k ≡ level_at entries h.place → IsSettled (take p entries) clause
    open_both late m k m_in differ k_at same = two_open (take p entries) clause l m has m_in (λ equal. differ (sym equal)) open_one open_other
      where
        after : p ≤ k
        after = ⊎_elim
            (λ before. absurd (omega (arith, level_at-below entries k p e before within starts, level_at-le entries p h.place late inside, same)))
            (λ yes. yes)
            (cases_lt k p)

        open_other : Contains (falses (take p entries)) m → ⊥
        open_other is_false =
            let there = false_at_before entries p m is_false in
            omega (arith, false_at_unique entries m there.0 k different there.2 k_at, there.1, after)

-- ---- the literal was the last one of it

twice : (x : Lit) → negated (negated x) ≡ x
twice x = same_parts (negated (negated x)) x refl (not_twice x.sign)
  where
    not_twice : (b : Bool) → not (not b) ≡ b
    not_twice true = refl
    not_twice false = refl

pub twice_true : (entries : List TrailEntry) (l : Lit) → Contains (falses entries) l → Contains (falses entries) (negated (negated l))
twice_true entries l has = subst (Contains (falses entries)) (sym (twice l)) has

pub reason_last : (entries : List TrailEntry) (clause : List Lit) (l : Lit) → AllPairs Differ entries → Contains clause l → IsReasonFor entries clause l → (spot : ℕ) (is : IsEntryOfVariable entries l.variable spot)
    → IsLastOpen negated (falses (take spot entries)) clause is.entry.literal
reason_last entries clause l different has h spot is = subst (λ (x : Lit). IsLastOpen negated (falses (take spot entries)) clause x) (sym literal_is) (subst (λ n. IsLastOpen negated (falses (take n entries)) clause l) same (
  has,
  (λ is_false. not_both entries l different (false_still entries h.place l is_false) (contains_false_at entries h.place (negated l) h.at)),
  λ m m_in other. let there = h.others m m_in other in false_before entries h.place there.0 m there.1 there.2,
))
  where
    same : h.place ≡ spot
    same = place_is entries h.place (negated l) spot is h.at

    literal_is : is.entry.literal ≡ l
    literal_is = sym (twice is.entry.literal)
        ∙ ap negated (ap (λ (x : TrailEntry). negated x.literal) (sym (get_or_from_slice_get entries spot is.entry is.entry is.at)) ∙ false_at_is entries spot (negated l) is.entry (subst (λ n. IsFalseAt entries n (negated l)) same h.at))
        ∙ twice l

-- ---- the trail after that

-- a decision was one before
decision_was : (es : List TrailEntry) (place : ℕ) (e : TrailEntry) (reason : ClauseRef) → slice_get es place ≡ Some e → (k : ℕ) (x : TrailEntry) → slice_get (set es place (given e reason)) k ≡ Some x → IsNone x.reason → slice_get es k ≡ Some x
decision_was es place e reason at k x is none =
    let below : k < length (set es place (given e reason)) = slice_get_within (set es place (given e reason)) k x is in
    let read : get_or (set es place (given e reason)) k x ≡ x = get_or_from_slice_get (set es place (given e reason)) k x x is in
    ⊎_elim
    (λ same. absurd (no_decision reason (subst (λ (y : TrailEntry). IsNone y.reason)
    (sym (sym (get_or-set_same es place (given e reason) x (slice_get_within es place e at)) ∙ subst (λ n. get_or (set es place (given e reason)) n x ≡ x) same read)) none)))
    (λ other. slice_get-get_or es k x (omega (arith, below, length-set es place (given e reason))) ∙ ap Some (sym (get_or-set_other es place k (given e reason) x other) ∙ read))
    (cases_eq k place)
  where
    no_decision : (r : ClauseRef) → IsNone (Some r) → ⊥
    no_decision r none = cc

pub search_justified : QuietIsKept → (c : ClausesView) (variable : Var) (reason : ClauseRef) (t u : TrailView) → IsJustified variable reason t u → IsOver c.axioms c.more u → IsSearch c t → IsSearch c u
search_justified law c variable reason t u h over s = record {
  over = over;
  attached = λ r known. rw h.is (s.attached r known);
  known = λ r has. s.known r (subst (λ (x : TrailView). Contains x.attached r) h.is has);
  quiet = law.by_justifying c.axioms c.more variable reason t u h s.quiet;
  over_own = rw h.is s.over_own;
  own = rw h.is (λ k d below. subst (λ (x : Lit). Contains c.own x.variable) (sym (literal_same t.entries h.place h.entry reason h.at k d)) (s.own k d (omega (arith, below, length-set t.entries h.place (given h.entry reason)))));
  lone = s.lone;
  decided = rw h.is (λ place e at starts. s.decided place e (decision_was t.entries h.place h.entry reason h.at place e at starts) starts);
}

pub justified_size : (variable : Var) (reason : ClauseRef) (t u : TrailView) → IsJustified variable reason t u → length u.entries ≡ length t.entries
justified_size variable reason t u h = ap (λ (x : TrailView). length x.entries) h.is ∙ length-set t.entries h.place (given h.entry reason)

-- the trail was told of a clause, which is the reason of a literal then
module _ (law : QuietIsKept) (c n : ClausesView) (t u w : TrailView) (clause : List Lit) (l : Lit) (number : ℕ) (is_number : number ≡ c.known) (next : c.known + 1 ≡ length c.more) (is_clause : get_or c.more c.known [] ≡ clause)
    (stands : IsStanding (get_or c.kept c.known blank)) (told : n ≡ record c { known = c.known + 1 }) (same : KeepsTrail t u) where
  pub reason_implied : IsReasonFor t.entries clause l → (before : ClauseRef) × IsReasonOf u.entries l.variable (Some before)
  reason_implied h = subst (λ (es : List TrailEntry). (before : ClauseRef) × IsReasonOf es l.variable (Some before)) (sym same.entries) h.implied

  pub reason_search : AllPairs Differ t.entries → Contains clause l → IsReasonFor t.entries clause l → IsSearch n u → IsJustified l.variable (More number) u w
      → ((axioms more : List (List Lit)) (place : ℕ) (is : IsEntryOfVariable u.entries l.variable place) → IsOver axioms more u → Contains u.attached (More number)
      → IsLastOpen negated (falses (take place u.entries)) (clause_at axioms more (More number)) is.entry.literal → IsOver axioms more w)
      → IsSearch n w
  reason_search different has h search justified over =
      search_justified law n l.variable (More number) u w justified
      (over n.axioms n.more was.0 was.1 search.over (search.attached (More number) known) (subst (λ (cl : List Lit). IsLastOpen negated (falses (take was.0 u.entries)) cl was_entry.entry.literal) (sym named) (reason_last u.entries clause l apart has moved was.0 was.1)))
      search
    where
      implied : (before : ClauseRef) × IsReasonOf u.entries l.variable (Some before)
      implied = reason_implied h

      was : IsReasonOf u.entries l.variable (Some implied.0)
      was = implied.1

      was_entry : IsEntryOfVariable u.entries l.variable was.0
      was_entry = was.1

      apart : AllPairs Differ u.entries
      apart = subst (λ (es : List TrailEntry). AllPairs Differ es) (sym same.entries) different

      moved : IsReasonFor u.entries clause l
      moved = subst (λ (es : List TrailEntry). IsReasonFor es clause l) (sym same.entries) h

      known : IsKnown n (More number)
      known = rw (told, is_number) (omega (arith, next), omega arith, stands)

      named : clause_at n.axioms n.more (More number) ≡ clause
      named = rw (told, is_number) is_clause

  pub reason_kept : (s : SearchView) (log : List LogLine) → t ≡ s.trail → KeepsProblem s.clauses c → IsLogOf c log → IsJustified l.variable (More number) u w → KeepsReason s (record { clauses = n; trail = w }) log
  reason_kept s log at problem logged justified = record {
    problem = next_problem s.clauses c n problem told;
    logged = rw told (logs_known c (c.known + 1) log logged);
    variables = ap (λ (x : TrailView). x.variables) justified.is ∙ same.variables ∙ ap (λ (x : TrailView). x.variables) at;
    size = justified_size l.variable (More number) u w justified ∙ ap length same.entries ∙ ap (λ (x : TrailView). length x.entries) at;
  }

-- without memory the clause is there, or isn't
pub reason_dropped : (s : SearchView) (c n : ClausesView) (u : TrailView) (log : List LogLine) → KeepsProblem s.clauses c → IsLogOf c log → n ≡ c → KeepsTrail s.trail u → KeepsReason s (record { clauses = n; trail = u }) log
reason_dropped s c n u log problem logged is same = record {
  problem = rw is problem;
  logged = rw is logged;
  variables = same.variables;
  size = ap length same.entries;
}

-- ---- the tests

-- two values that the test finds different
pub differs_by : (a b c : Bool) → b ≡ c → beq a b ≡ false → a ≡ c → ⊥
differs_by true true c is differs same = false≢true (sym differs)
differs_by true false c is differs same = false≢true (is ∙ sym same)
differs_by false true c is differs same = false≢true (same ∙ sym is)
differs_by false false c is differs same = false≢true (sym differs)

pub not_none_from : (o : Option ClauseRef) (b : Bool) → is_some o ≡ not b → b ≡ false → IsNone o → ⊥
not_none_from None b is fails none = false≢true (is ∙ ap not fails)
not_none_from (Some r) b is fails none = cc

-- the second literal, as it is read
abbrev pub second : List Lit → Lit
second clause = get_or clause 1 (record { variable = record { 0 = 0 }; sign = false })

pub has_second : (clause : List Lit) → 2 ≤ length clause → Contains clause (second clause)
has_second clause some = (1, some, default clause 1 (second clause) (record { variable = record { 0 = 0 }; sign = false }) some)

-- a reason that there is
pub reason_some : (entries : List TrailEntry) (v : Var) (o : Option ClauseRef) → IsReasonOf entries v o → (IsNone o → ⊥) → (before : ClauseRef) × IsReasonOf entries v (Some before)
reason_some entries v None is not = absurd (not refl)
reason_some entries v (Some r) is not = (r, is)

-- another literal of the clause has a value
pub other_known : (entries : List TrailEntry) (place : ℕ) (clause : List Lit) (l m : Lit) → AreFalseBefore entries place clause l → Contains clause m → (m ≡ l → ⊥) → HasValue entries m.variable
other_known entries place clause l m others has differs = let there = others m has differs in known_by_false entries m (contains_false_at entries there.0 m there.2)

module _ (entries : List TrailEntry) (clause : List Lit) (l : Lit) (spot level : ℕ) (o : Option ClauseRef) (is_true : Contains (falses entries) (negated l)) (reason : IsReasonOf entries l.variable o) (implied : IsNone o → ⊥)
    (is : IsEntryOfVariable entries l.variable spot) (others : AreFalseBefore entries spot clause l) (of_level : IsLevelOf entries l.variable level) where
  at_spot : IsFalseAt entries spot (negated l)
  at_spot =
      let found = false_at_contains entries (negated l) is_true in
      subst (λ n. IsFalseAt entries n (negated l)) (place_is entries found.0 (negated l) spot is found.1) found.1

  level_is : level_at entries spot ≡ level
  level_is = ap (level_at entries) (place_is entries spot (negated l) of_level.0 of_level.1 at_spot) ∙ of_level.2

  pub reason_at_start : level ≡ 0 → IsReasonFor entries clause l
  reason_at_start start = record { place = spot; at = at_spot; implied = reason_some entries l.variable o reason implied; others = others; in_time = inl (level_is ∙ start) }

  pub reason_in_time : (m : Lit) (other : ℕ) → Contains clause m → (m ≡ l → ⊥) → IsLevelOf entries m.variable other → other ≡ level → IsReasonFor entries clause l
  reason_in_time m other has differs of_other same =
      let there = others m has differs in
      let found : level_at entries there.0 ≡ level_at entries spot = ap (level_at entries) (place_is entries there.0 m of_other.0 of_other.1 there.2) ∙ of_other.2 ∙ same ∙ sym level_is in
      record {
        place = spot;
        at = at_spot;
        implied = reason_some entries l.variable o reason implied;
        others = others;
        in_time = inr (m, there.0, has, differs, there.2, found);
      }

-- a literal whose variable has the other value became false at its place
pub before_found : (entries : List TrailEntry) (l : Lit) (o : Option Bool) (sign : Bool) (place spot : ℕ) → IfSome o (λ b. Contains (falses entries) (record { variable = l.variable; sign = not b })) → o ≡ Some sign → (sign ≡ l.sign → ⊥)
    → IsEntryOfVariable entries l.variable spot → spot < place → IsFalseBefore entries place l
before_found entries l o sign place spot has is differs at early =
    let here : Contains (falses entries) (record { variable = l.variable; sign = not sign }) = subst (λ (p : Option Bool). IfSome p (λ b. Contains (falses entries) (record { variable = l.variable; sign = not b }))) is has in
    let same : ◌≡◌ {A = Lit} (record { variable = l.variable; sign = not sign }) l = same_parts (record { variable = l.variable; sign = not sign }) l refl (turned sign l.sign differs) in
    let found = false_at_contains entries l (subst (Contains (falses entries)) same here) in
    (found.0, omega (arith, place_is entries found.0 l spot at found.1, early), found.1)
  where
    turned : (a b : Bool) → (a ≡ b → ⊥) → not a ≡ b
    turned true true h = absurd (h refl)
    turned true false h = refl
    turned false true h = refl
    turned false false h = absurd (h refl)
