-- What it is that at least so many values make a statement true.
use Rattle.std.specs.Prelude.{◌≡◌, ℕ, ◌<◌, ◌↔◌, List, [], ◌∷◌, ◌++◌, length}
use Rattle.pc_sheet.specs.Sheet.{Universe, Statement}
use Rattle.pc_sheet.specs.Truth.{Scope, AtLeast, Holds}
use Rattle.pc_sheet.specs.declared.ids.SortId.{SortId}
use Rattle.pc_sheet.specs.declared.ids.ValueId.{ValueId}

-- values below i that are such, each before the one that stands before it in the list, so that no two are the same
abbrev pub ArePicked : (ValueId → Type 0) → ℕ → List ValueId → Type 0
ArePicked P i [] = Unit {0}
ArePicked P i (v ∷ vs) = (v.0 < i) × P v × ArePicked P v.0 vs

-- a list of j different values
abbrev pub ArePickedFrom : (ValueId → Type 0) → ℕ → ℕ → Type 0
ArePickedFrom P i j = (vs : List ValueId) × (length vs ≡ j) × ArePicked P i vs

-- at least j of the first i values make a body true exactly where j different ones of them can be listed that do
abbrev pub CountsAreOfDifferentValues : Type 0
CountsAreOfDifferentValues = (u : Universe) (a : List ValueId) (scope : Scope) (s : SortId) (body : Statement) (i j : ℕ)
    → AtLeast (λ v. Holds u a (scope ++ (s, v) ∷ []) body) i j ↔ ArePickedFrom (λ v. Holds u a (scope ++ (s, v) ∷ []) body) i j
