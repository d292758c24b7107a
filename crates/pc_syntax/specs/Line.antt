-- The forms of a line of a sheet.
use Rattle.std.specs.Prelude.{◌≡◌, ℕ, ℤ, List, [], ◌∷◌, map, codes}
use Rattle.std.specs.Str.{IsUtf8}
use Rattle.pc_token.specs.declared.token.Kind.TheVariants.{Equal, Colon, Range}
use Rattle.pc_token.specs.Line.{IsOneName}
use Rattle.pc_formula.specs.Word.{Word, name, sign}
use Rattle.pc_formula.specs.Tree.{Value}
use Rattle.pc_formula.specs.Value.{DerivesName, DerivesNumber, DerivesInt, DerivesValue, InParentheses, Arguments}
use Rattle.pc_formula.specs.Equation.{IsEquation}
use Rattle.pc_syntax.specs.Spelling.{IsNothing, IsSpelled}
use Rattle.pc_syntax.specs.Clause.{IsRule}
use Rattle.pc_syntax.specs.Tree.{Declared, list_sort, range_sort, table, row, cell, rule, enter, also}

-- what a line of a sheet is: blank or a comment, `sheet` with its version, a declaration, or `begin`
pub data LineForm : Type 0 where
  nothing : LineForm
  heading : ℕ → LineForm
  declares : Declared → LineForm
  begins : LineForm

-- the word that starts a declaration
abbrev pub keyword : Declared → List ℕ
keyword (list_sort n values) = codes "sort"
keyword (range_sort n low high) = codes "sort"
keyword (table n sorts) = codes "table"
keyword (row n values) = codes "row"
keyword (cell n sorts result) = codes "cell"
keyword (rule n f) = codes "rule"
keyword (enter c v) = codes "enter"
keyword (also c v) = codes "also"

-- INT .. INT
pub record AreBounds (ws : List Word) (low high : ℤ) : Type 0 where
  pub rest : List Word
  pub first : DerivesInt ws low (sign Range ∷ rest)
  pub second : DerivesInt rest high []

-- NAME = INT .. INT
pub record IsRangeDeclared (ws : List Word) (n : List ℕ) (low high : ℤ) : Type 0 where
  pub rest : List Word
  pub words : ws ≡ name n ∷ sign Equal ∷ rest
  pub bounds : AreBounds rest low high

-- NAME ( NAME { , NAME } )
pub record IsTable (ws : List Word) (n : List ℕ) (sorts : List (List ℕ)) : Type 0 where
  pub rest : List Word
  pub words : ws ≡ name n ∷ rest
  pub listed : InParentheses DerivesName rest sorts []

-- NAME ( VALUE { , VALUE } )
pub record IsRow (ws : List Word) (n : List ℕ) (values : List Value) : Type 0 where
  pub rest : List Word
  pub words : ws ≡ name n ∷ rest
  pub listed : InParentheses DerivesValue rest values []

-- NAME [ ( NAME { , NAME } ) ] : NAME
pub record IsFamily (ws : List Word) (n : List ℕ) (sorts : List (List ℕ)) (result : List ℕ) : Type 0 where
  pub rest : List Word
  pub words : ws ≡ name n ∷ rest
  pub arguments : Arguments DerivesName rest sorts (sign Colon ∷ name result ∷ [])

-- what stands behind the word that starts a declaration; a listed sort is NAME = { NAME }
abbrev pub StandsBehind : Declared → List Word → Type 0
StandsBehind (list_sort n values) ws = ws ≡ name n ∷ sign Equal ∷ map name values
StandsBehind (range_sort n low high) ws = IsRangeDeclared ws n low high
StandsBehind (table n sorts) ws = IsTable ws n sorts
StandsBehind (row n values) ws = IsRow ws n values
StandsBehind (cell n sorts result) ws = IsFamily ws n sorts result
StandsBehind (rule n f) ws = IsRule ws n f
StandsBehind (enter c v) ws = IsEquation ws Equal c v
StandsBehind (also c v) ws = IsEquation ws Equal c v

-- the words are a declaration, all of them
pub record IsDeclaration (ws : List Word) (d : Declared) : Type 0 where
  pub rest : List Word
  pub words : ws ≡ name (keyword d) ∷ rest
  pub follows : StandsBehind d rest

-- the words are `sheet NUMBER`, all of them
pub record IsHeading (ws : List Word) (version : ℕ) : Type 0 where
  pub rest : List Word
  pub words : ws ≡ name (codes "sheet") ∷ rest
  pub number : DerivesNumber rest version []

-- the words are a line of this form
abbrev pub IsForm : List Word → LineForm → Type 0
IsForm ws (heading n) = IsHeading ws n
IsForm ws (declares d) = IsDeclaration ws d
IsForm ws f = ⊥

-- the line is `begin`
pub record IsBegin (line : List ℕ) : Type 0 where
  pub utf8 : IsUtf8 line
  pub name : IsOneName line (codes "begin")

-- the line has the form
pub data IsLine (line : List ℕ) : LineForm → Type 0 where
  empty_line : IsNothing line → IsLine line nothing
  begin_line : IsBegin line → IsLine line begins
  spelled_line : {form : LineForm} (ws : List Word) → IsSpelled line ws → IsForm ws form → IsLine line form

-- the line has a form
abbrev pub HasForm : List ℕ → Type 0
HasForm line = (form : LineForm) × IsLine line form

-- a declaration whose line starts with the word, and what stands behind that
abbrev pub IsDeclarationOf : List ℕ → Declared → List Word → Type 0
IsDeclarationOf start d ws = (keyword d ≡ start) × StandsBehind d ws
