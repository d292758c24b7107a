-- A cell, `=` or `!=`, and a value, to the end of the words.
use Rattle.std.specs.Prelude.{Bool, true, false, List, [], ◌∷◌}
use Rattle.pc_token.specs.declared.token.Kind.{Kind}
use Rattle.pc_token.specs.declared.token.Kind.TheVariants.{Equal, NotEqual}
use Rattle.pc_formula.specs.Word.{Word, sign}
use Rattle.pc_formula.specs.Tree.{Cell, Value}
use Rattle.pc_formula.specs.Value.{DerivesValue, DerivesCell}

-- `=` or `!=`, whether the cell is to have the value
abbrev pub equality : Bool → Kind
equality true = Equal
equality false = NotEqual

-- CELL, the sign, VALUE
pub record IsEquation (ws : List Word) (k : Kind) (c : Cell) (v : Value) : Type 0 where
  pub rest : List Word
  pub cell : DerivesCell ws c (sign k ∷ rest)
  pub value : DerivesValue rest v []
