-- Marks of the variables that an evaluation has read, and what it then tells: the truth under all scopes that agree on these.
use Rattle.std.specs.Prelude.{◌≡◌, ℕ, ◌<◌, ◌≤◌, ◌↔◌, Bool, true, IsTrue, List, [], ◌∷◌, ◌++◌, length, get_or, slice_get}
use Rattle.pc_name.specs.declared.sign.Sign.{Sign}
use Rattle.pc_sheet.specs.Sheet.{Universe, Item, variable, constant, number, cell, Items, no_items, item, Sum, Statement}
use Rattle.pc_sheet.specs.Truth.{Scope, AtLeast, Holds}
use Rattle.pc_sheet.specs.declared.ids.SortId.{SortId}
use Rattle.pc_sheet.specs.declared.ids.ValueId.{ValueId}

-- the variable of that number, from the outermost, is marked; so is each past the last mark, which no scope has
abbrev pub IsMarked : List Bool → ℕ → Type 0
IsMarked marks k = get_or marks k true ≡ true

-- each variable of an item is marked
abbrev mutual
  pub ItemIsMarked : List Bool → Item → Type 0
  ItemIsMarked marks (variable k) = IsMarked marks k
  ItemIsMarked marks (constant s v) = Unit {0}
  ItemIsMarked marks (number z) = Unit {0}
  ItemIsMarked marks (cell f xs) = ItemsAreMarked marks xs

  pub ItemsAreMarked : List Bool → Items → Type 0
  ItemsAreMarked marks no_items = Unit {0}
  ItemsAreMarked marks (item x xs) = ItemIsMarked marks x × ItemsAreMarked marks xs

-- of added items
abbrev pub AddedAreMarked : List Bool → List (Sign × Item) → Type 0
AddedAreMarked marks [] = Unit {0}
AddedAreMarked marks (x ∷ xs) = ItemIsMarked marks x.1 × AddedAreMarked marks xs

-- of a side
abbrev pub SumIsMarked : List Bool → Sum → Type 0
SumIsMarked marks s = ItemIsMarked marks s.first × AddedAreMarked marks s.rest

-- what is marked stays so
abbrev pub Keeps : List Bool → List Bool → Type 0
Keeps marks more = (k : ℕ) → IsMarked marks k → IsMarked more k

-- the same of the outermost n variables
abbrev pub KeepsBelow : ℕ → List Bool → List Bool → Type 0
KeepsBelow n marks more = (k : ℕ) → k < n → IsMarked marks k → IsMarked more k

-- scopes of as many variables that give each marked one the same sort and value
abbrev pub Agree : List Bool → Scope → Scope → Type 0
Agree marks scope other = (length scope ≡ length other) × ((k : ℕ) → k < length scope → IsMarked marks k → slice_get scope k ≡ slice_get other k)

-- a statement's truth, under each scope that agrees with this one
abbrev pub Tells : Universe → List ValueId → List Bool → Scope → Statement → Bool → Type 0
Tells u a marks scope s is = (other : Scope) → Agree marks scope other → IsTrue is ↔ Holds u a other s

-- of a sort's first n values, so many make a statement true, under each scope that agrees with this one
abbrev pub FindsUnder : Universe → List ValueId → List Bool → Scope → SortId → Statement → ℕ → ℕ → Type 0
FindsUnder u a marks scope s body n found =
    (other : Scope) → Agree marks scope other → (j : ℕ) → AtLeast (λ v. Holds u a (other ++ (s, v) ∷ []) body) n j ↔ (j ≤ found)
