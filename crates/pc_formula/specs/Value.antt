-- Numbers, integers, values, cells and lists in parentheses, as derivations over words.
use Rattle.std.specs.Prelude.{ℕ, ℤ, pos, neg_ℤ, List, [], ◌∷◌}
use Rattle.std.specs.Str.Parse.{digits_value}
use Rattle.pc_token.specs.declared.token.Kind.TheVariants.{Open, Close, Comma, Minus}
use Rattle.pc_formula.specs.Word.{Word, name, number, sign}
use Rattle.pc_formula.specs.Tree.{Value, name_value, integer_value, Cell}

-- NAME
pub data DerivesName : List Word → List ℕ → List Word → Type 0 where
  a_name : {rest : List Word} (text : List ℕ) → DerivesName (name text ∷ rest) text rest

-- NUMBER
pub data DerivesNumber : List Word → ℕ → List Word → Type 0 where
  a_number : {rest : List Word} (digits : List ℕ) → DerivesNumber (number digits ∷ rest) (digits_value 10 digits) rest

-- INT = [ - ] NUMBER
pub data DerivesInt : List Word → ℤ → List Word → Type 0 where
  natural : {ws rest : List Word} {n : ℕ} → DerivesNumber ws n rest → DerivesInt ws (pos n) rest
  negative : {ws rest : List Word} {n : ℕ} → DerivesNumber ws n rest → DerivesInt (sign Minus ∷ ws) (neg_ℤ (pos n)) rest

-- VALUE = NAME | INT
pub data DerivesValue : List Word → Value → List Word → Type 0 where
  by_name : {ws rest : List Word} {text : List ℕ} → DerivesName ws text rest → DerivesValue ws (name_value text) rest
  by_integer : {ws rest : List Word} {z : ℤ} → DerivesInt ws z rest → DerivesValue ws (integer_value z) rest

-- X { , X } )
pub data Listed {A : Type 0} (X : List Word → A → List Word → Type 0) : List Word → List A → List Word → Type 0 where
  last : {ws rest : List Word} {a : A} → X ws a (sign Close ∷ rest) → Listed X ws (a ∷ []) rest
  next : {ws mid rest : List Word} {a : A} {more : List A} → X ws a (sign Comma ∷ mid) → Listed X mid more rest → Listed X ws (a ∷ more) rest

-- ( X { , X } )
pub data InParentheses {A : Type 0} (X : List Word → A → List Word → Type 0) : List Word → List A → List Word → Type 0 where
  enclosed : {ws rest : List Word} {all : List A} → Listed X ws all rest → InParentheses X (sign Open ∷ ws) all rest

-- [ ( X { , X } ) ]
pub data Arguments {A : Type 0} (X : List Word → A → List Word → Type 0) : List Word → List A → List Word → Type 0 where
  no_argument : {ws : List Word} → Arguments X ws [] ws
  arguments : {ws rest : List Word} {all : List A} → InParentheses X ws all rest → Arguments X ws all rest

-- CELL = NAME [ ( VALUE { , VALUE } ) ]
pub data DerivesCell : List Word → Cell → List Word → Type 0 where
  a_cell : {ws rest : List Word} {values : List Value} (text : List ℕ) → Arguments DerivesValue ws values rest → DerivesCell (name text ∷ ws) (record { name = text; args = values }) rest
