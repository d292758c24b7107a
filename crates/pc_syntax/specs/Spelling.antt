-- How the text of a line splits into words, and whether these go too deep.
use Rattle.std.specs.Prelude.{ℕ, ◌<◌, ◌≤◌, ◌⊎◌, List}
use Rattle.std.specs.Str.{IsUtf8}
use Rattle.pc_token.specs.Line.{IsBlankLine, IsComment}
use Rattle.pc_formula.specs.Word.{Word, HasWords, nesting, most_nesting}

-- a line of UTF-8 that is blank or a comment
pub record IsNothing (line : List ℕ) : Type 0 where
  pub utf8 : IsUtf8 line
  pub empty : IsBlankLine line ⊎ IsComment line

-- a line of UTF-8 that is no blank line or comment and splits into these words
pub record IsSplit (line : List ℕ) (ws : List Word) : Type 0 where
  pub utf8 : IsUtf8 line
  pub something : IsNothing line → ⊥
  pub has : HasWords line ws

-- the line splits into these words, and they don't go too deep
pub record IsSpelled (line : List ℕ) (ws : List Word) : Type 0 where
  pub split : IsSplit line ws
  pub within : nesting ws ≤ most_nesting

-- the line splits into words that go too deep
pub record IsTooDeep (line : List ℕ) : Type 0 where
  pub words : List Word
  pub split : IsSplit line words
  pub deep : most_nesting < nesting words
