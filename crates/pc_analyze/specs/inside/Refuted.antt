-- What the hints so far show, while an analysis goes back over the trail.
use Rattle.std.specs.Prelude.{◌≡◌, ℕ, ◌+◌, ◌<◌, ◌≤◌, ◌⊎◌, Bool, List, [], ◌∷◌, ◌++◌, Contains, Option, take, length, slice_index_or, IsNone}
use Rattle.pc_lits.specs.declared.literal.Lit.{Lit}
use Rattle.pc_lits.specs.Steps.{AreFalse, IsLastOpen}
use Rattle.pc_propagate.specs.declared.trail.TrailEntry.{TrailEntry}
use Rattle.pc_propagate.specs.Entries.{falses}
use Rattle.pc_propagate.specs.Watched.{IsFalseAt}
use Rattle.pc_analyze.specs.inside.Marking.{IsMarked}
use Rattle.pc_analyze.specs.Learning.{IsInOne}
use Rattle.pc_lits.specs.Literals.{negated}
use Rattle.pc_analyze.specs.FirstPoint.{Leads, LeadsBy, IsBannedAt}

-- each literal that became false at a marked place is among these
abbrev pub Covers : List TrailEntry → List Bool → List Lit → Type 0
Covers entries marks lits = (k : ℕ) (m : Lit) → IsMarked marks k → IsFalseAt entries k m → Contains lits m

-- with these literals false, each hint but the last has one literal that isn't, whose negation wasn't false before and stands in
-- a later hint, and the last has none
abbrev pub RefutesByEach : List Lit → List (List Lit) → Type 0
RefutesByEach falses [] = ⊥
RefutesByEach falses (hint ∷ []) = AreFalse negated falses hint
RefutesByEach falses (hint ∷ next ∷ hints) =
    (l : Lit) × IsLastOpen negated falses hint l × (¬ Contains falses (negated l)) × IsInOne (next ∷ hints) (negated l) × RefutesByEach (falses ++ negated l ∷ []) (next ∷ hints)

-- The hints refute every list of literals that has the marked ones and, beside the literals of `base`, only such as are
-- false by the entries before `place`.
pub record AreRefuting (entries : List TrailEntry) (base : List Lit) (place : ℕ) (marks : List Bool) (hints : List (List Lit)) : Type 0 where
  pub below : (k : ℕ) → IsMarked marks k → k < place
  pub refutes : (lits : List Lit) → Covers entries marks lits → AreFalse negated lits base → ((m : Lit) → Contains lits m → Contains (falses (take place entries)) m ⊎ Contains base m) → RefutesByEach lits hints

-- each literal that became false at a marked place stands in one of the hints' clauses
abbrev pub AreAskedByMarks : List TrailEntry → List Bool → List (List Lit) → Type 0
AreAskedByMarks entries marks hints = (k : ℕ) (m : Lit) → IsMarked marks k → IsFalseAt entries k m → IsInOne hints m

-- the literals' variables are those of entries at `place` or later
abbrev pub AreLater : List TrailEntry → ℕ → List Lit → Type 0
AreLater entries place lits = (m : Lit) → Contains lits m
    → (k : ℕ) × (place ≤ k) × (k < length entries) × ((d : TrailEntry) → (slice_index_or entries k d).literal.variable.0 ≡ m.variable.0)

-- the literal is false by a decision before `end`
abbrev pub IsOfDecision : List TrailEntry → ℕ → Lit → Type 0
IsOfDecision entries end m = (k : ℕ) × (k < end) × IsFalseAt entries k m × ((d : TrailEntry) → IsNone (slice_index_or entries k d).reason)

-- the marked places are those before `from` that have a way to the false clause by entries at `from` or later
pub record AreLeading (axioms more : List (List Lit)) (entries : List TrailEntry) (conflict : List Lit) (from : ℕ) (marks : List Bool) : Type 0 where
  pub leads : (k : ℕ) → IsMarked marks k → (k < from) × Leads axioms more entries conflict from k
  pub marked : (k : ℕ) → k < from → Leads axioms more entries conflict from k → IsMarked marks k

-- past each entry at `from` or later that isn't banned there is a way from an earlier one at `start` or later
abbrev pub ArePassed : List (List Lit) → List (List Lit) → List (Option Bool) → List TrailEntry → List Lit → ℕ → ℕ → Type 0
ArePassed axioms more banned entries conflict start from =
    (k : ℕ) → from ≤ k → k < length entries → IsBannedAt banned entries k ⊎ ((j : ℕ) × (start ≤ j) × (j < k) × Leads axioms more entries conflict (k + 1) j)

-- past the point, or banned and at `here` or later
abbrev pub HasGivenWay : List (Option Bool) → List TrailEntry → ℕ → ℕ → ℕ → Type 0
HasGivenWay banned entries place here k = (place < k) ⊎ ((here ≤ k) × IsBannedAt banned entries k)

-- the marked places are those up to the point that haven't given way and have a way to the false clause by those that have
pub record AreLeft (axioms more : List (List Lit)) (banned : List (Option Bool)) (entries : List TrailEntry) (conflict : List Lit) (place here : ℕ) (marks : List Bool) : Type 0 where
  pub leads : (k : ℕ) → IsMarked marks k → (¬ HasGivenWay banned entries place here k) × LeadsBy axioms more entries conflict (HasGivenWay banned entries place here) k
  pub marked : (k : ℕ) → ¬ HasGivenWay banned entries place here k → LeadsBy axioms more entries conflict (HasGivenWay banned entries place here) k → IsMarked marks k

-- the hints refute every list of literals that has the marked ones and, beside these, only such as are false by the entries before
-- `here`
abbrev pub RefuteMarked : List TrailEntry → ℕ → List Bool → List (List Lit) → Type 0
RefuteMarked entries here marks hints =
    (lits : List Lit) → Covers entries marks lits → ((m : Lit) → Contains lits m → (k : ℕ) × ((k < here) ⊎ IsMarked marks k) × IsFalseAt entries k m) → RefutesByEach lits hints
