-- The sheet's part of the input, line by line.
use Rattle.std.specs.Prelude.{◌≡◌, ℕ, ◌+◌, ◌<◌, ◌≤◌, List, ◌++◌, length, All, Vec, Result, Ok, Err}
use Rattle.std.specs.declared.alloc.Global.{Global}
use Rattle.std.specs.declared.option.Option.{Option}
use Rattle.std.specs.Io.KnownBytes.{Consumes}
use Rattle.pc_lines.specs.Lines.{HasNoEnd}
use Rattle.pc_lines.specs.declared.TheConstants.{SHEET_LIMIT}
use Rattle.pc_lines.specs.declared.file.SheetStop.{SheetStop}
use Rattle.pc_lines.specs.declared.file.SheetStop.TheVariants.{Failed, TooLong, Memory}
use Rattle.pc_transcript.specs.declared.sheet.Step.{Step}
use Rattle.pc_transcript.specs.declared.sheet.Step.TheVariants.{More, Complete}
use Rattle.pc_transcript.specs.SheetPart.{IsEarlier, joined_lines, EndsSheet}
use Rattle.pc_transcript.specs.SheetTaking.{TakesSheet, IsLineFront, IsSheetFront, StopsInSheet}

-- ---- one line

-- a line of the sheet was taken and stands behind the text, within the limit
pub record TakesLine (old new : List ℕ) (source rest : Option (List ℕ)) (P : List ℕ → Type 0) : Type 0 where
  pub line : List ℕ
  pub is : P line
  pub text : new ≡ old ++ line
  pub taken : Consumes source rest line
  pub small : length new ≤ SHEET_LIMIT

-- the start of a further line was taken, and with it the text is within the limit
pub record HasOpenLine (old : List ℕ) (source source' : Option (List ℕ)) : Type 0 where
  pub begun : List ℕ
  pub no_end : HasNoEnd begun
  pub small : length (old ++ begun) ≤ SHEET_LIMIT
  pub taken : Consumes source source' begun

-- a further line or its start was taken, and with it the text has such a length
pub record HasLineOf (P : ℕ → Type 0) (old : List ℕ) (source rest : Option (List ℕ)) : Type 0 where
  pub line : List ℕ
  pub one_line : IsLineFront line
  pub size : P (length (old ++ line))
  pub taken : Consumes source rest line

-- what taking a further line of the sheet does to its text. Rest is still to come, and of that the source has left source'.
abbrev pub StepGives : Result Step SheetStop → List ℕ → List ℕ → Option (List ℕ) → Option (List ℕ) → Option (List ℕ) → Type 0
StepGives (Ok More) old new source rest source' = TakesLine old new source rest IsEarlier
StepGives (Ok Complete) old new source rest source' = TakesLine old new source rest (λ line. EndsSheet line rest)
StepGives (Err Failed) old new source rest source' = HasOpenLine old source source'
StepGives (Err TooLong) old new source rest source' = HasLineOf (λ size. size ≡ SHEET_LIMIT + 1) old source rest
StepGives (Err Memory) old new source rest source' = HasLineOf (λ size. size ≤ SHEET_LIMIT) old source rest

-- why a line was not put behind the text: there was no room, or no memory
abbrev pub IsNotAppended : SheetStop → List ℕ → List ℕ → Type 0
IsNotAppended Failed old line = ⊥
IsNotAppended TooLong old line = SHEET_LIMIT < length (old ++ line)
IsNotAppended Memory old line = length (old ++ line) ≤ SHEET_LIMIT

-- ---- the whole

-- what was taken of the sheet's part is one byte longer than it may be
pub record PassesSheet (source rest : Option (List ℕ)) : Type 0 where
  pub earlier : List (List ℕ)
  pub others : All IsEarlier earlier
  pub small : length (joined_lines earlier) ≤ SHEET_LIMIT
  pub begun : List ℕ
  pub one_line : IsLineFront begun
  pub long : length (joined_lines earlier ++ begun) ≡ SHEET_LIMIT + 1
  pub taken : Consumes source rest (joined_lines earlier ++ begun)

-- so much of the sheet's part was taken, within the limit
pub record HasSome (source rest : Option (List ℕ)) : Type 0 where
  pub text : List ℕ
  pub front : IsSheetFront text
  pub small : length text ≤ SHEET_LIMIT
  pub taken : Consumes source rest text

-- what taking the sheet gives
abbrev pub StopsSheet : SheetStop → Option (List ℕ) → Option (List ℕ) → Type 0
StopsSheet Failed source rest = StopsInSheet source rest
StopsSheet TooLong source rest = PassesSheet source rest
StopsSheet Memory source rest = HasSome source rest

abbrev pub SheetGives : Result (Vec ℕ Global) SheetStop → Option (List ℕ) → Option (List ℕ) → Type 0
SheetGives (Ok text) source rest = TakesSheet text.items source rest
SheetGives (Err stop) source rest = StopsSheet stop source rest
