-- How far the sheet's part of the input was taken.
use Rattle.std.specs.Prelude.{◌≡◌, ℕ, ◌≤◌, ◌⊎◌, List, ◌++◌, length, All}
use Rattle.std.specs.declared.option.Option.{Option}
use Rattle.std.specs.Io.KnownBytes.{Consumes}
use Rattle.pc_lines.specs.Lines.{HasNoEnd, IsWholeLine}
use Rattle.pc_lines.specs.declared.TheConstants.{SHEET_LIMIT}
use Rattle.pc_transcript.specs.SheetPart.{IsEarlier, joined_lines, IsSheetPart}

-- the sheet's part was taken, and it is within the limit
pub record TakesSheet (text : List ℕ) (source rest : Option (List ℕ)) : Type 0 where
  pub taken : Consumes source rest text
  pub part : IsSheetPart text rest
  pub small : length text ≤ SHEET_LIMIT

-- a line of the sheet, or its start
abbrev pub IsLineFront : List ℕ → Type 0
IsLineFront line = HasNoEnd line ⊎ IsWholeLine SHEET_LIMIT line

-- the text is complete lines before `begin`, and one line more or its start
pub record IsSheetFront (text : List ℕ) : Type 0 where
  pub earlier : List (List ℕ)
  pub last : List ℕ
  pub is : text ≡ joined_lines earlier ++ last
  pub others : All IsEarlier earlier
  pub one_line : IsLineFront last

-- what was taken is complete lines of the sheet and the start of another, within the limit
pub record StopsInSheet (source source' : Option (List ℕ)) : Type 0 where
  pub earlier : List (List ℕ)
  pub others : All IsEarlier earlier
  pub begun : List ℕ
  pub no_end : HasNoEnd begun
  pub small : length (joined_lines earlier ++ begun) ≤ SHEET_LIMIT
  pub taken : Consumes source source' (joined_lines earlier ++ begun)
