-- Small trails: which clauses are settled, and where a conflict has its first unique implication point.
use Rattle.std.specs.Prelude.{ℕ, true, false, List, [], ◌∷◌, None, Some}
use Rattle.pc_lits.specs.declared.literal.Lit.{Lit}
use Rattle.pc_propagate.specs.declared.clauses.ClauseRef.TheVariants.{Axiom}
use Rattle.pc_propagate.specs.declared.trail.TrailEntry.{TrailEntry}
use Rattle.pc_propagate.specs.Propagation.{IsSettled}
use Rattle.pc_analyze.specs.FirstPoint.{IsFirstPoint, IsOfFirstPoint}

-- the variable of that number, and its negation
abbrev pub plus : ℕ → Lit
plus n = record { variable = record { 0 = n }; sign = true }

abbrev pub minus : ℕ → Lit
minus n = record { variable = record { 0 = n }; sign = false }

-- true by a decision, and by the axiom of that number
abbrev pub decided : Lit → TrailEntry
decided l = record { literal = l; reason = None }

abbrev pub implied : Lit → ℕ → TrailEntry
implied l number = record { literal = l; reason = Some (Axiom number) }

-- ---- not both

abbrev pub not_both : List Lit
not_both = minus 0 ∷ minus 1 ∷ []

pub record WorkedSettled : Type 0 where
  -- both literals are left
  pub both_left : IsSettled [] not_both
  -- one is left, which isn't true yet
  pub one_left : ¬ IsSettled (decided (plus 0) ∷ []) not_both
  pub last_is_true : IsSettled (decided (plus 0) ∷ implied (minus 1) 0 ∷ []) not_both
  -- one is true, and the other is left
  pub one_is_true : IsSettled (decided (minus 0) ∷ []) not_both
  pub both_false : ¬ IsSettled (decided (plus 0) ∷ decided (plus 1) ∷ []) not_both
  pub without_literals : ¬ IsSettled (decided (plus 0) ∷ []) []

-- ---- 0 is decided, and then 1, which makes 2 true; and 2 makes 3 true, and with 0 makes 4 true; but 3 and 4 aren't both true

abbrev pub reasons : List (List Lit)
reasons = (minus 1 ∷ plus 2 ∷ []) ∷ (minus 2 ∷ plus 3 ∷ []) ∷ (minus 0 ∷ minus 2 ∷ plus 4 ∷ []) ∷ []

abbrev pub two_levels : List TrailEntry
two_levels = decided (plus 0) ∷ decided (plus 1) ∷ implied (plus 2) 0 ∷ implied (plus 3) 1 ∷ implied (plus 4) 2 ∷ []

abbrev pub conflict : List Lit
conflict = minus 3 ∷ minus 4 ∷ []

pub record WorkedFirstPoint : Type 0 where
  -- all ways from the second decision go through 2
  pub first : IsFirstPoint reasons [] two_levels conflict 2 2
  -- the decision is such a point too, but not the first
  pub decision : ¬ IsFirstPoint reasons [] two_levels conflict 2 1
  -- there is a way past 3
  pub later : ¬ IsFirstPoint reasons [] two_levels conflict 2 3
  pub of_another_level : ¬ IsFirstPoint reasons [] two_levels conflict 1 2
  -- of the clause of the first point each literal was false before the conflict
  pub learned : IsOfFirstPoint reasons [] two_levels conflict 2 (minus 2 ∷ minus 0 ∷ [])
  pub of_the_decision : ¬ IsOfFirstPoint reasons [] two_levels conflict 2 (minus 1 ∷ minus 0 ∷ [])
  -- a literal is missing
  pub too_short : ¬ IsOfFirstPoint reasons [] two_levels conflict 2 (minus 2 ∷ [])
