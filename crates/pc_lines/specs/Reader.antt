-- What a reader of lines holds, and what a call takes.
use Rattle.std.specs.Prelude.{◌≡◌, ◌<◌, ℕ, List, [], ◌∷◌, ◌++◌, length, take, IfSome}
use Rattle.std.specs.declared.option.Option.{Option}
use Rattle.std.specs.Io.KnownBytes.{prepend_known, IsAtEnd}
use Rattle.pc_lines.specs.Lines.{lines_of, IsOpenLine, IsWholeLine, IsLongStart, BeginsTooLong}
use Rattle.pc_lines.specs.declared.reader.Part.{Part}
use Rattle.pc_lines.specs.declared.reader.Part.TheVariants.{Ended, Open, Long}
use Rattle.pc_lines.specs.declared.reader.Taken.{Taken}
use Rattle.pc_lines.specs.declared.reader.Taken.TheVariants.{Line, Last, End, TooLong}

-- a reader: the line that was taken last, the bytes that were read and not taken yet, and the length of the longest line that it has room for
pub record ReaderState : Type 0 where
  pub line : List ℕ
  pub held : List ℕ
  pub longest : ℕ

-- a reader that holds nothing yet
pub record IsNewReader (longest : ℕ) (r : ReaderState) : Type 0 where
  pub line : r.line ≡ []
  pub held : r.held ≡ []
  pub longest_is : r.longest ≡ longest

-- the bytes still to come, where the source tells what it has left: first those that are held
abbrev pub coming : ReaderState → Option (List ℕ) → Option (List ℕ)
coming r left = prepend_known r.held left

-- a part of what is held goes to the end of the line
pub record Moves (before after : ReaderState) : Type 0 where
  pub part : List ℕ
  pub line : after.line ≡ before.line ++ part
  pub held : before.held ≡ part ++ after.held
  pub longest : after.longest ≡ before.longest

-- how far so many bytes take a line, as a line of their own: to its line feed, to the end of the bytes, or past the room
abbrev pub IsTakenUpTo : Part → ℕ → List ℕ → ℕ → Type 0
IsTakenUpTo Ended room bytes count = IsWholeLine room (take count bytes)
IsTakenUpTo Open room bytes count = IsOpenLine room bytes × (count ≡ length bytes)
IsTakenUpTo Long room bytes count = IsLongStart room (take count bytes)

-- how far that took the line: to its line feed, to the end of what is held, or past the limit
abbrev pub IsTakenPart : Part → ℕ → ReaderState → Type 0
IsTakenPart Ended limit r = IsWholeLine limit r.line
IsTakenPart Open limit r = IsOpenLine limit r.line × (r.held ≡ [])
IsTakenPart Long limit r = IsLongStart limit r.line

-- what stands in the line after a call, and whether anything is still to come
abbrev pub IsTaken : Taken → ℕ → List ℕ → Option (List ℕ) → Type 0
IsTaken Line limit line after = IsWholeLine limit line
IsTaken Last limit line after = IsOpenLine limit line × (0 < length line) × IsAtEnd after
IsTaken End limit line after = (line ≡ []) × IsAtEnd after
IsTaken TooLong limit line after = IsLongStart limit line

-- the line against the lines of all that was still to come: it is the first, the only one, none, or the start of a first that is too long
abbrev pub IsFirstOf : Taken → ℕ → List ℕ → List ℕ → List ℕ → Type 0
IsFirstOf Line limit line all rest = lines_of all ≡ line ∷ lines_of rest
IsFirstOf Last limit line all rest = lines_of all ≡ line ∷ []
IsFirstOf End limit line all rest = lines_of all ≡ []
IsFirstOf TooLong limit line all rest = BeginsTooLong limit (lines_of all)

-- the same, where the bytes still to come are told
abbrev pub IsNextLine : Taken → ℕ → List ℕ → Option (List ℕ) → Option (List ℕ) → Type 0
IsNextLine taken limit line before after = IfSome before (λ all. IfSome after (λ rest. IsFirstOf taken limit line all rest))
