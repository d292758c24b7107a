-- Small trails, computed.
use Rattle.std.proofs.Common.{◌≡◌, ℕ, zero, suc, ◌+◌, ◌<◌, ◌≤◌, ◌↔◌, ◌⊎◌, inl, inr, true, false, List, [], ◌∷◌, Option, None, Some, Contains, slice_get, arith, ap, refl, sym, ◌∙◌, subst}
use Rattle.std.proofs.lemmas.Bool.{false≢true}
use Rattle.pc_lits.specs.declared.literal.Lit.{Lit}
use Rattle.pc_propagate.specs.declared.clauses.ClauseRef.{ClauseRef}
use Rattle.pc_propagate.specs.declared.clauses.ClauseRef.TheVariants.{Axiom}
use Rattle.pc_propagate.specs.declared.trail.TrailEntry.{TrailEntry}
use Rattle.pc_propagate.specs.Levels.{level_at}
use Rattle.pc_propagate.specs.Propagation.{IsSettled}
use Rattle.pc_propagate.specs.Refs.{clause_at}
use Rattle.pc_propagate.specs.Watched.{IsFalseAt}
use Rattle.pc_analyze.specs.FirstPoint.{StandsIn, StandsInReason, Leads, IsFirstPoint, IsOfFirstPoint}
use Rattle.pc_lemmas.proofs.Elements.{contains_cases, contains_none}
use Rattle.pc_worked_laws.specs.Trails.{minus, plus, decided, implied, not_both, reasons, two_levels, conflict, WorkedSettled, WorkedFirstPoint}
use Rattle.pc_worked_laws.proofs.Deciding.{isnt, has_lit, has_decides, is_settled, settled_decides}

-- ---- settled clauses

settled : (entries : List TrailEntry) (clause : List Lit) → is_settled entries clause ≡ true → IsSettled entries clause
settled entries clause is = (settled_decides entries clause).0 is

not_settled : (entries : List TrailEntry) (clause : List Lit) → is_settled entries clause ≡ false → ¬ IsSettled entries clause
not_settled entries clause fails = isnt (is_settled entries clause) (IsSettled entries clause) (settled_decides entries clause) fails

pub worked_settled : WorkedSettled
worked_settled = record {
  both_left = settled [] not_both refl;
  one_left = not_settled (decided (plus 0) ∷ []) not_both refl;
  last_is_true = settled (decided (plus 0) ∷ implied (minus 1) 0 ∷ []) not_both refl;
  one_is_true = settled (decided (minus 0) ∷ []) not_both refl;
  both_false = not_settled (decided (plus 0) ∷ decided (plus 1) ∷ []) not_both refl;
  without_literals = not_settled (decided (plus 0) ∷ []) [] refl;
}

-- ---- what stands where

none_some : {X : Type 0} (x : X) → None ≡ Some x → ⊥
none_some x is = cc

abbrev lit_or : Option Lit → Lit
lit_or None = minus 5
lit_or (Some l) = l

-- the entry of number k made the negation of variable k false
made_false : (k : ℕ) (m : Lit) → IsFalseAt two_levels k m → (k < 5) × (minus k ≡ m)
made_false zero m is = (omega arith, ap lit_or is)
made_false (suc zero) m is = (omega arith, ap lit_or is)
made_false (suc (suc zero)) m is = (omega arith, ap lit_or is)
made_false (suc (suc (suc zero))) m is = (omega arith, ap lit_or is)
made_false (suc (suc (suc (suc zero)))) m is = (omega arith, ap lit_or is)
made_false (suc (suc (suc (suc (suc k))))) m is = absurd (none_some m is)

stands_in : (clause : List Lit) (k : ℕ) → StandsIn two_levels clause k → (k < 5) × (has_lit clause (minus k) ≡ true)
stands_in clause k (m, false_at, there) =
    let at = made_false k m false_at in
    (at.0, (has_decides clause (minus k)).1 (subst (Contains clause) (sym at.1) there))

-- the clause of an entry's reason, and nothing where it has none
abbrev reason_of : ℕ → List Lit
reason_of zero = []
reason_of (suc zero) = []
reason_of (suc (suc zero)) = minus 1 ∷ plus 2 ∷ []
reason_of (suc (suc (suc zero))) = minus 2 ∷ plus 3 ∷ []
reason_of (suc (suc (suc (suc zero)))) = minus 0 ∷ minus 2 ∷ plus 4 ∷ []
reason_of (suc (suc (suc (suc (suc k))))) = []

abbrev entry_or : Option TrailEntry → TrailEntry
entry_or None = decided (minus 5)
entry_or (Some e) = e

abbrev clause_or : Option ClauseRef → List Lit
clause_or None = []
clause_or (Some r) = clause_at reasons [] r

abbrev clause_by : Option TrailEntry → List Lit
clause_by e = clause_or (entry_or e).reason

is_reason : (next : ℕ) (e : TrailEntry) (reason : ClauseRef) → slice_get two_levels next ≡ Some e → e.reason ≡ Some reason → reason_of next ≡ clause_at reasons [] reason
is_reason zero e reason at is = absurd (none_some reason (ap (λ o. (entry_or o).reason) at ∙ is))
is_reason (suc zero) e reason at is = absurd (none_some reason (ap (λ o. (entry_or o).reason) at ∙ is))
is_reason (suc (suc zero)) e reason at is = ap clause_by at ∙ ap clause_or is
is_reason (suc (suc (suc zero))) e reason at is = ap clause_by at ∙ ap clause_or is
is_reason (suc (suc (suc (suc zero)))) e reason at is = ap clause_by at ∙ ap clause_or is
is_reason (suc (suc (suc (suc (suc k))))) e reason at is = absurd (none_some e at)

stands_in_reason : (k next : ℕ) → StandsInReason reasons [] two_levels k next → has_lit (reason_of next) (minus k) ≡ true
stands_in_reason k next (e, reason, at, is, stands) =
    (stands_in (reason_of next) k (subst (λ c. StandsIn two_levels c k) (sym (is_reason next e reason at is)) stands)).1

-- ---- ways

in_conflict : (k : ℕ) → has_lit conflict (minus k) ≡ false → ¬ StandsIn two_levels conflict k
in_conflict k fails stands = false≢true (sym fails ∙ (stands_in conflict k stands).1)

-- only the entry of number 2 has the second decision in its reason
after_decision : (next : ℕ) → 3 ≤ next → has_lit (reason_of next) (minus 1) ≡ true → ⊥
after_decision zero more is = omega (arith, more)
after_decision (suc zero) more is = omega (arith, more)
after_decision (suc (suc zero)) more is = omega (arith, more)
after_decision (suc (suc (suc zero))) more is = false≢true is
after_decision (suc (suc (suc (suc zero)))) more is = false≢true is
after_decision (suc (suc (suc (suc (suc k))))) more is = false≢true is

none_past : ¬ Leads reasons [] two_levels conflict 3 1
none_past ([], stands) = in_conflict 1 refl stands
none_past (next ∷ rest, (more, stands, way)) = after_decision next more (stands_in_reason 1 next stands)

conflict_three : StandsIn two_levels conflict 3
conflict_three = (minus 3, refl, (has_decides conflict (minus 3)).0 refl)

conflict_four : StandsIn two_levels conflict 4
conflict_four = (minus 4, refl, (has_decides conflict (minus 4)).0 refl)

in_three : StandsInReason reasons [] two_levels 2 3
in_three = (implied (plus 3) 1, Axiom 1, refl, refl, (minus 2, refl, (has_decides (reason_of 3) (minus 2)).0 refl))

in_four : StandsInReason reasons [] two_levels 2 4
in_four = (implied (plus 4) 2, Axiom 2, refl, refl, (minus 2, refl, (has_decides (reason_of 4) (minus 2)).0 refl))

first_in_four : StandsInReason reasons [] two_levels 0 4
first_in_four = (implied (plus 4) 2, Axiom 2, refl, refl, (minus 0, refl, (has_decides (reason_of 4) (minus 0)).0 refl))

by_three : Leads reasons [] two_levels conflict 3 2
by_three = (3 ∷ [], (omega arith, in_three, conflict_three))

by_four : Leads reasons [] two_levels conflict 4 2
by_four = (4 ∷ [], (omega arith, in_four, conflict_four))

from_first : Leads reasons [] two_levels conflict 3 0
from_first = (4 ∷ [], (omega arith, first_in_four, conflict_four))

-- ---- the first point

abbrev IsPoint : ℕ → Type 0
IsPoint place = IsFirstPoint reasons [] two_levels conflict 2 place

all_through : (k : ℕ) → k < 2 → Leads reasons [] two_levels conflict 3 k → level_at two_levels k < 2
all_through zero less leads = omega arith
all_through (suc zero) less leads = absurd (none_past leads)
all_through (suc (suc k)) less leads = absurd (omega (arith, less))

abbrev IsPassed : ℕ → Type 0
IsPassed k = (j : ℕ) × (j < k) × (level_at two_levels j ≡ 2) × Leads reasons [] two_levels conflict (k + 1) j

passed : (k : ℕ) → 2 < k → k < 5 → IsPassed k
passed zero more less = absurd (omega (arith, more))
passed (suc zero) more less = absurd (omega (arith, more))
passed (suc (suc zero)) more less = absurd (omega (arith, more))
passed (suc (suc (suc zero))) more less = (2, omega arith, refl, by_four)
passed (suc (suc (suc (suc zero)))) more less = (3, omega arith, refl, ([], conflict_three))
passed (suc (suc (suc (suc (suc k))))) more less = absurd (omega (arith, less))

point : IsPoint 2
point = record { of_level = refl; leads = by_three; all_pass = all_through; none_later = λ k more less level. passed k more less }

one_decision : ¬ IsPoint 1
one_decision h = by (h.none_later 2 (omega arith) (omega arith) refl)
  where
    by : IsPassed 2 → ⊥
    by (zero, less, level, leads) = omega (arith, level)
    by (suc zero, less, level, leads) = none_past leads
    by (suc (suc j), less, level, leads) = omega (arith, less)

past_three : ¬ IsPoint 3
past_three h = let less = h.all_pass 2 (omega arith) by_four in omega (arith, less)

past_four : ¬ IsPoint 4
past_four h = let less = h.all_pass 3 (omega arith) ([], conflict_three) in omega (arith, less)

abbrev five_more : ℕ → ℕ
five_more k = suc (suc (suc (suc (suc k))))

beyond : (k : ℕ) (clause : List Lit) → ¬ StandsIn two_levels clause (five_more k)
beyond k clause stands = let at = stands_in clause (five_more k) stands in omega (arith, at.0)

only : (place : ℕ) → IsPoint place → place ≡ 2
only zero h = absurd (let level = h.of_level in omega (arith, level))
only (suc zero) h = absurd (one_decision h)
only (suc (suc zero)) h = refl
only (suc (suc (suc zero))) h = absurd (past_three h)
only (suc (suc (suc (suc zero)))) h = absurd (past_four h)
only (suc (suc (suc (suc (suc k))))) h = absurd (by (five_more k + 1) h.leads)
  where
    by : (from : ℕ) → ¬ Leads reasons [] two_levels conflict from (five_more k)
    by from ([], stands) = beyond k conflict stands
    by from (next ∷ rest, (more, (e, reason, at, is, stands), way)) = beyond k (clause_at reasons [] reason) stands

-- ---- its clause

abbrev IsFrom : ℕ → Lit → Type 0
IsFrom place m = (k : ℕ) × (k ≤ place) × IsFalseAt two_levels k m × Leads reasons [] two_levels conflict (place + 1) k

from_point : (m : Lit) → IsFrom 2 m → (m ≡ minus 2) ⊎ (m ≡ minus 0)
from_point m (zero, less, at, leads) = inr (sym (made_false 0 m at).1)
from_point m (suc zero, less, at, leads) = absurd (none_past leads)
from_point m (suc (suc zero), less, at, leads) = inl (sym (made_false 2 m at).1)
from_point m (suc (suc (suc k)), less, at, leads) = absurd (omega (arith, less))

abbrev of_point : List Lit
of_point = minus 2 ∷ minus 0 ∷ []

exactly_point : (m : Lit) → Contains of_point m ↔ IsFrom 2 m
exactly_point m = (
  λ there. elim (contains_cases (minus 2) (minus 0 ∷ []) m there) [
    | inl is ↦ subst (IsFrom 2) is (2, omega arith, refl, by_three)
    | inr later ↦ elim (contains_cases (minus 0) [] m later) [ inl is ↦ subst (IsFrom 2) is (0, omega arith, refl, from_first) | inr none ↦ absurd (contains_none m none) ]
  ],
  λ from. elim (from_point m from) [
    | inl is ↦ subst (Contains of_point) (sym is) ((has_decides of_point (minus 2)).0 refl)
    | inr is ↦ subst (Contains of_point) (sym is) ((has_decides of_point (minus 0)).0 refl)
  ],
)

-- what a clause of the first point contains
contains_what_leads : (clause : List Lit) (m : Lit) → IsOfFirstPoint reasons [] two_levels conflict 2 clause → IsFrom 2 m → Contains clause m
contains_what_leads clause m h from = (h.exactly m).1 (subst (λ place. IsFrom place m) (sym (only h.place h.first)) from)

lacks_one : (clause : List Lit) (m : Lit) → IsFrom 2 m → has_lit clause m ≡ false → ¬ IsOfFirstPoint reasons [] two_levels conflict 2 clause
lacks_one clause m from fails h = false≢true (sym fails ∙ (has_decides clause m).1 (contains_what_leads clause m h from))

pub worked_first_point : WorkedFirstPoint
worked_first_point = record {
  first = point;
  decision = one_decision;
  later = past_three;
  of_another_level = λ h. let level = h.of_level in omega (arith, level);
  learned = record { place = 2; first = point; exactly = exactly_point };
  of_the_decision = lacks_one (minus 1 ∷ minus 0 ∷ []) (minus 2) (2, omega arith, refl, by_three) refl;
  too_short = lacks_one (minus 2 ∷ []) (minus 0) (0, omega arith, refl, from_first) refl;
}
