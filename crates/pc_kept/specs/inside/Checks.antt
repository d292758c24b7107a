-- What is known of a choice while it is looked at.
use Rattle.std.specs.Prelude.{◌≡◌, ℕ, ◌<◌, ◌≤◌, ◌⊎◌, Bool, true, cond, List, [], ◌∷◌, Option, None, Some, All, length, slice_get, slice_index_or, Contains}
use Rattle.pc_lits.specs.declared.literal.Lit.{Lit}
use Rattle.pc_lits.specs.Values.{MakesTrue}
use Rattle.pc_accept.specs.Axioms.{Axiom}
use Rattle.pc_solver.specs.Forced.{AreForced}
use Rattle.pc_kept.specs.Kept.{IsAmong, IsOfNode}

-- those of the numbers that are marked
abbrev pub marked : List ℕ → List Bool → List ℕ
marked [] marks = []
marked (k ∷ ks) [] = []
marked (k ∷ ks) (b ∷ marks) = cond b (k ∷ marked ks marks) (marked ks marks)

-- there is room for the values of the clauses' variables
abbrev pub IsRoom : List (Option Bool) → List (List Lit) → Type 0
IsRoom values store = All (All (λ l. l.variable.0 < length values)) store

-- each literal that has become true is forced by these clauses
abbrev pub AreRight : List (List Lit) → List ℕ → List (Option Bool) → Type 0
AreRight store kept values = (trues : List Lit) × AreForced (IsAmong store kept) trues × ((l : Lit) → MakesTrue values l → Contains trues l)

abbrev pub IsNamed : List (Option Bool) → ℕ → Type 0
IsNamed named x = slice_index_or named x None ≡ Some true

-- each variable of these clauses is named
abbrev pub AreNamed : List (List Lit) → List ℕ → List (Option Bool) → Type 0
AreNamed store kept named = (k : ℕ) → Contains kept k → (clause : List Lit) → slice_get store k ≡ Some clause → (l : Lit) → Contains clause l → IsNamed named l.variable.0

abbrev pub HasTrue : List (Option Bool) → List Lit → Type 0
HasTrue values clause = (l : Lit) × Contains clause l × MakesTrue values l

-- no variable from the number `pairs` on is named
abbrev pub NoneIsNamed : ℕ → List (Option Bool) → List Lit → Type 0
NoneIsNamed pairs named clause = (l : Lit) → Contains clause l → pairs ≤ l.variable.0 → ¬ IsNamed named l.variable.0

-- a literal of a variable from the number `pairs` on that isn't named has become true
abbrev pub HasConstant : ℕ → List (Option Bool) → List (Option Bool) → List Lit → Type 0
HasConstant pairs constants named clause = (l : Lit) × Contains clause l × (pairs ≤ l.variable.0) × MakesTrue constants l × (¬ IsNamed named l.variable.0)

-- the axiom may be left out, by these values and marks
pub record IsFine (pairs : ℕ) (store : List (List Lit)) (names : List Axiom) (values constants named : List (Option Bool)) (k : ℕ) : Type 0 where
  pub of_node : (x : Axiom) → slice_get names k ≡ Some x → IsOfNode x
  pub why : (clause : List Lit) → slice_get store k ≡ Some clause → HasTrue values clause ⊎ (NoneIsNamed pairs named clause ⊎ HasConstant pairs constants named clause)

-- each axiom without a mark may be left out
abbrev pub AreFine : ℕ → List (List Lit) → List Axiom → List (Option Bool) → List (Option Bool) → List (Option Bool) → List ℕ → List Bool → Type 0
AreFine pairs store names values constants named used marks =
    (j k : ℕ) → slice_get used j ≡ Some k → (slice_get marks j ≡ Some true) ⊎ IsFine pairs store names values constants named k
