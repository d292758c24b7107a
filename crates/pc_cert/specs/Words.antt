-- The texts of a certificate's lines, and the words that they spell.
use Rattle.std.specs.Prelude.{ℕ, List, length, nat_lt, filter}
use Rattle.std.specs.List.{slice_split}
use Rattle.std.specs.Str.{IsUtf8}
use Rattle.pc_name.specs.Names.{IsName}
use Rattle.pc_token.specs.Token.{is_blank}
use Rattle.pc_formula.specs.Word.{Word, HasWords, HasShortNames}

-- the texts of a line: what stands between blanks
abbrev pub texts_of : List ℕ → List (List ℕ)
texts_of line = filter (λ text. nat_lt 0 (length text)) (slice_split is_blank line)

-- UTF-8 that splits into these words, in which each name is no longer than a name may be
pub record SpellsWords (text : List ℕ) (ws : List Word) : Type 0 where
  pub utf8 : IsUtf8 text
  pub has : HasWords text ws
  pub short : HasShortNames ws

-- the words of the text are this
pub record SpellsThis {A : Type 0} (Is : List Word → A → Type 0) (text : List ℕ) (a : A) : Type 0 where
  pub words : List Word
  pub spells : SpellsWords text words
  pub is : Is words a

-- a NAME
pub record IsNameText (text : List ℕ) : Type 0 where
  pub utf8 : IsUtf8 text
  pub name : IsName text
