-- The lines of a stream of bytes, with their ends. A byte 10 is a line feed, a byte 13 a carriage return.
use Rattle.std.specs.Prelude.{◌≡◌, ◌≢◌, ◌==◌, ℕ, ◌+◌, ◌<◌, ◌≤◌, nat_lt, if◌then◌else◌, List, [], ◌∷◌, ◌++◌, length, All}
use Rattle.std.specs.List.{onto_first}
use Rattle.std.specs.Str.Lines.{strip_carriage_return}

-- the lines, each up to and with its line feed; a last line without one counts where it has a byte
abbrev pub lines_of : List ℕ → List (List ℕ)
lines_of [] = []
lines_of (b ∷ bs) = if b == 10 then (b ∷ []) ∷ lines_of bs else onto_first b (lines_of bs)

-- the bytes before a line's line feed, or all of them where it has none
abbrev pub before_end : List ℕ → List ℕ
before_end [] = []
before_end (b ∷ bs) = if b == 10 then [] else b ∷ before_end bs

-- the length of a line: a carriage return counts, the line feed does not
abbrev pub length_of : List ℕ → ℕ
length_of line = length (before_end line)

-- the text of a line: without its line feed and one carriage return before that; a line without a line feed is its own text
abbrev pub line_text_of : List ℕ → List ℕ
line_text_of line = if nat_lt (length_of line) (length line) then strip_carriage_return (before_end line) else line

-- bytes without a line feed
abbrev pub HasNoEnd : List ℕ → Type 0
HasNoEnd bytes = All (λ b. b ≢ 10) bytes

-- the start of a line, within the limit, whose end has not come
pub record IsOpenLine (limit : ℕ) (line : List ℕ) : Type 0 where
  pub short : length line ≤ limit
  pub no_end : HasNoEnd line

-- a line with its line feed, within the limit
pub record IsWholeLine (limit : ℕ) (line : List ℕ) : Type 0 where
  pub ends : line ≡ before_end line ++ 10 ∷ []
  pub no_end : HasNoEnd (before_end line)
  pub short : length_of line ≤ limit

-- the start of a line that is longer than the limit: one byte too many, and no end yet
pub record IsLongStart (limit : ℕ) (line : List ℕ) : Type 0 where
  pub long : length line ≡ limit + 1
  pub no_end : HasNoEnd line

-- lines of which the first is longer than the limit
pub record BeginsTooLong (limit : ℕ) (lines : List (List ℕ)) : Type 0 where
  pub first : List ℕ
  pub others : List (List ℕ)
  pub are : lines ≡ first ∷ others
  pub long : limit < length_of first
