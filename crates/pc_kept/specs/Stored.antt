-- Kept axioms by what is stored of a sheet: its clauses, the names of its axioms and variables, and how many of these are of pairs.
use Rattle.std.specs.Prelude.{◌≡◌, ℕ, ◌<◌, ◌≤◌, ◌⊎◌, Bool, List, Option, Some, slice_get, AllPairs, Contains}
use Rattle.pc_lits.specs.declared.literal.Lit.{Lit}
use Rattle.pc_lits.specs.Literals.{negated}
use Rattle.pc_lits.specs.Values.{MakesTrue}
use Rattle.pc_accept.specs.Literals.{Symbol}
use Rattle.pc_accept.specs.Axioms.{Axiom}
use Rattle.pc_axiom_names.specs.Listed.{NameLists}
use Rattle.pc_components.specs.PartAxioms.{IsUsed}
use Rattle.pc_solver.specs.Forced.{IsForced}
use Rattle.pc_kept.specs.Kept.{IsAmong, IsNode, IsOfNode}
use Rattle.pc_kept.specs.ByPolarity.{meant_by}

-- these numbers are of axioms that say what nodes and atoms mean
abbrev pub AreMeaningsStored : List Axiom → List ℕ → Type 0
AreMeaningsStored names numbers = (k : ℕ) (x : Axiom) → Contains numbers k → slice_get names k ≡ Some x → IsOfNode x

-- the axiom says what that variable means
abbrev pub IsOwnStored : NameLists → ℕ → ℕ → Type 0
IsOwnStored names k x = (a : Axiom) × (slice_get names.axioms k ≡ Some a) × (s : Symbol) × (meant_by a ≡ Some s) × (slice_get names.variables x ≡ Some s)

module _ (store : List (List Lit)) (names : NameLists) where
  -- a kept axiom has the literal, and not as its own
  abbrev pub IsNamedStored : List ℕ → Lit → Type 0
  IsNamedStored kept l = (k : ℕ) × (clause : List Lit) × Contains kept k × (slice_get store k ≡ Some clause) × Contains clause l × (¬ IsOwnStored names k l.variable.0)

  -- the axiom's own literal is banned
  abbrev pub IsBannedOutStored : List (Option Bool) → ℕ → Type 0
  IsBannedOutStored banned k = (clause : List Lit) × (slice_get store k ≡ Some clause) × (l : Lit) × Contains clause l × IsOwnStored names k l.variable.0 × MakesTrue banned l

  -- banned is no literal of a pair, and none whose opposite a kept axiom names
  abbrev pub AreUnnamedStored : List (Option Bool) → List ℕ → Type 0
  AreUnnamedStored banned kept = (l : Lit) (s : Symbol) → slice_get names.variables l.variable.0 ≡ Some s → MakesTrue banned l → IsNode s × (¬ IsNamedStored kept (negated l))

module _ (pairs : ℕ) (store : List (List Lit)) (names : NameLists) where
  abbrev pub IsTrueStored : List ℕ → List Lit → Type 0
  IsTrueStored kept clause = (l : Lit) × Contains clause l × IsForced (IsAmong store kept) l

  -- no kept axiom has a variable of a node that this clause has; the variables from that number on are nodes
  abbrev pub IsUnneededStored : List ℕ → List Lit → Type 0
  IsUnneededStored kept clause = (l : Lit) → Contains clause l → pairs ≤ l.variable.0 → ¬ IsUsed store kept l.variable.0

  abbrev pub IsConstantStored : List ℕ → List Lit → Type 0
  IsConstantStored kept clause =
      (l : Lit) × Contains clause l × (pairs ≤ l.variable.0) × (¬ IsUsed store kept l.variable.0)
      × ((meanings : List ℕ) × AreMeaningsStored names.axioms meanings × IsForced (IsAmong store meanings) l)

  pub record IsLeftOutStored (kept : List ℕ) (k : ℕ) : Type 0 where
    pub of_node : (x : Axiom) → slice_get names.axioms k ≡ Some x → IsOfNode x
    pub why : (clause : List Lit) → slice_get store k ≡ Some clause → IsTrueStored kept clause ⊎ (IsUnneededStored kept clause ⊎ IsConstantStored kept clause)

  pub record AreKeptStored (banned : List (Option Bool)) (used kept : List ℕ) : Type 0 where
    pub among : (k : ℕ) → Contains kept k → Contains used k
    pub each : (k : ℕ) → Contains used k → Contains kept k ⊎ (IsLeftOutStored kept k ⊎ IsBannedOutStored store names banned k)
    pub order : AllPairs (λ j k. j < k) used → AllPairs (λ j k. j < k) kept
