-- The longest front of the words that a form derives.
use Rattle.std.specs.Prelude.{◌≡◌, ℕ, ◌<◌, List, ◌∷◌}
use Rattle.pc_token.specs.declared.token.Kind.{Kind}
use Rattle.pc_token.specs.declared.token.Kind.TheVariants.{Equal, NotEqual, Less, LessEqual, Greater, GreaterEqual, And, Or, Arrow, DoubleArrow, Open, Plus, Minus}
use Rattle.pc_formula.specs.Word.{Word, sign}

-- how loosely a sign binds: a form of a level goes on at the signs up to that level. The levels: 0 what never goes on,
-- 1 an item and a cell, 2 a side, 3 UNARY, 4 AND, 5 OR, 6 IMP, 7 IFF and FORMULA
abbrev pub reach : Kind → ℕ
reach Open = 1
reach Plus = 2
reach Minus = 2
reach Equal = 3
reach NotEqual = 3
reach Less = 3
reach LessEqual = 3
reach Greater = 3
reach GreaterEqual = 3
reach And = 4
reach Or = 5
reach Arrow = 6
reach DoubleArrow = 7
reach k = 8

-- no sign comes first by which a form of the level would go on
abbrev pub StopsLevel : ℕ → List Word → Type 0
StopsLevel level (sign k ∷ ws) = level < reach k
StopsLevel level ws = Unit {0}

-- the longest front of the old words that is derived is this, and the new words are left; no other such front is derived
pub record Reads {A : Type 0} (D : List Word → A → List Word → Type 0) (level : ℕ) (old : List Word) (a : A) (new : List Word) : Type 0 where
  pub derives : D old a new
  pub stops : StopsLevel level new
  pub only : (b : A) (rest : List Word) → D old b rest → StopsLevel level rest → (b ≡ a) × (rest ≡ new)

-- no such front of the words is derived
pub record ReadsNone {A : Type 0} (D : List Word → A → List Word → Type 0) (level : ℕ) (old : List Word) : Type 0 where
  pub none : (b : A) (rest : List Word) → D old b rest → StopsLevel level rest → ⊥
