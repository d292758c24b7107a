-- The first unique implication point of a conflict, and the first one that isn't banned.
use Rattle.std.specs.Prelude.{◌≡◌, ℕ, ◌+◌, ◌<◌, ◌≤◌, ◌⊎◌, ◌↔◌, Bool, Option, List, [], ◌∷◌, Some, Contains, length, slice_get}
use Rattle.pc_lits.specs.declared.literal.Lit.{Lit}
use Rattle.pc_lits.specs.Values.{MakesTrue}
use Rattle.pc_propagate.specs.declared.trail.TrailEntry.{TrailEntry}
use Rattle.pc_propagate.specs.declared.clauses.ClauseRef.{ClauseRef}
use Rattle.pc_propagate.specs.Levels.{level_at}
use Rattle.pc_propagate.specs.Refs.{clause_at}
use Rattle.pc_propagate.specs.Watched.{IsFalseAt}

-- the literal that the entry at this place made false stands in the clause
abbrev pub StandsIn : List TrailEntry → List Lit → ℕ → Type 0
StandsIn entries clause place = (m : Lit) × IsFalseAt entries place m × Contains clause m

-- it stands in the reason of the entry at `next`
abbrev pub StandsInReason : List (List Lit) → List (List Lit) → List TrailEntry → ℕ → ℕ → Type 0
StandsInReason axioms more entries place next =
    (e : TrailEntry) × (reason : ClauseRef) × (slice_get entries next ≡ Some e) × (e.reason ≡ Some reason) × StandsIn entries (clause_at axioms more reason) place

-- These places, each `from` or later, are a way from the entry at `place` to the false clause: what each entry made false stands
-- in the reason of the next one, and what the last one made false in the false clause.
abbrev pub IsWay : List (List Lit) → List (List Lit) → List TrailEntry → List Lit → ℕ → ℕ → List ℕ → Type 0
IsWay axioms more entries conflict from place [] = StandsIn entries conflict place
IsWay axioms more entries conflict from place (next ∷ rest) = (from ≤ next) × StandsInReason axioms more entries place next × IsWay axioms more entries conflict from next rest

-- there is a way from the entry at `place` to the false clause by entries at `from` or later alone
abbrev pub Leads : List (List Lit) → List (List Lit) → List TrailEntry → List Lit → ℕ → ℕ → Type 0
Leads axioms more entries conflict from place = (way : List ℕ) × IsWay axioms more entries conflict from place way

-- The entry at `place` is the first unique implication point of the level: it has a way to the false clause, each way from an
-- earlier entry of the level goes through it, and past each later entry of the level there is one from an earlier entry.
pub record IsFirstPoint (axioms more : List (List Lit)) (entries : List TrailEntry) (conflict : List Lit) (level place : ℕ) : Type 0 where
  pub of_level : level_at entries place ≡ level
  pub leads : Leads axioms more entries conflict (place + 1) place
  pub all_pass : (k : ℕ) → k < place → Leads axioms more entries conflict (place + 1) k → level_at entries k < level
  pub none_later : (k : ℕ) → place < k → k < length entries → level_at entries k ≡ level
      → (j : ℕ) × (j < k) × (level_at entries j ≡ level) × Leads axioms more entries conflict (k + 1) j

-- The clause of the first unique implication point: exactly what that entry and earlier ones made false from which ways lead past
-- it to the false clause.
pub record IsOfFirstPoint (axioms more : List (List Lit)) (entries : List TrailEntry) (conflict : List Lit) (level : ℕ) (clause : List Lit) : Type 0 where
  pub place : ℕ
  pub first : IsFirstPoint axioms more entries conflict level place
  pub exactly : (m : Lit) → Contains clause m ↔ ((k : ℕ) × (k ≤ place) × IsFalseAt entries k m × Leads axioms more entries conflict (place + 1) k)

-- ---- where no learned clause is to have some literals, the banned ones

-- what the entry at this place made false is banned
abbrev pub IsBannedAt : List (Option Bool) → List TrailEntry → ℕ → Type 0
IsBannedAt banned entries place = (m : Lit) × IsFalseAt entries place m × MakesTrue banned m

-- a way by such places alone
abbrev pub IsWayBy : List (List Lit) → List (List Lit) → List TrailEntry → List Lit → (ℕ → Type 0) → ℕ → List ℕ → Type 0
IsWayBy axioms more entries conflict By place [] = StandsIn entries conflict place
IsWayBy axioms more entries conflict By place (next ∷ rest) = By next × StandsInReason axioms more entries place next × IsWayBy axioms more entries conflict By next rest

abbrev pub LeadsBy : List (List Lit) → List (List Lit) → List TrailEntry → List Lit → (ℕ → Type 0) → ℕ → Type 0
LeadsBy axioms more entries conflict By place = (way : List ℕ) × IsWayBy axioms more entries conflict By place way

-- The entry at `place` is the first point of the level that isn't banned: it has a way to the false clause, each way from an earlier
-- entry of the level goes through it, and past each later entry of the level that isn't banned there is one from an earlier entry.
pub record IsFirstFreePoint (axioms more : List (List Lit)) (banned : List (Option Bool)) (entries : List TrailEntry) (conflict : List Lit) (level place : ℕ) : Type 0 where
  pub of_level : level_at entries place ≡ level
  pub free : ¬ IsBannedAt banned entries place
  pub leads : Leads axioms more entries conflict (place + 1) place
  pub all_pass : (k : ℕ) → k < place → Leads axioms more entries conflict (place + 1) k → level_at entries k < level
  pub none_later : (k : ℕ) → place < k → k < length entries → level_at entries k ≡ level
      → IsBannedAt banned entries k ⊎ ((j : ℕ) × (j < k) × (level_at entries j ≡ level) × Leads axioms more entries conflict (k + 1) j)

-- the entry comes after the point, or is banned: its reason stands for it
abbrev pub GivesWay : List (Option Bool) → List TrailEntry → ℕ → ℕ → Type 0
GivesWay banned entries place k = (place < k) ⊎ IsBannedAt banned entries k

-- The clause of the first point that isn't banned: exactly what that entry and earlier ones made false that aren't banned, from
-- which ways lead by later and by banned entries to the false clause.
pub record IsOfFirstFreePoint (axioms more : List (List Lit)) (banned : List (Option Bool)) (entries : List TrailEntry) (conflict : List Lit) (level : ℕ) (clause : List Lit) : Type 0 where
  pub place : ℕ
  pub first : IsFirstFreePoint axioms more banned entries conflict level place
  pub exactly : (m : Lit) → Contains clause m
      ↔ ((k : ℕ) × (k ≤ place) × (¬ IsBannedAt banned entries k) × IsFalseAt entries k m × LeadsBy axioms more entries conflict (GivesWay banned entries place) k)
