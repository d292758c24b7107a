-- Laws over the definitions.
use Rattle.std.specs.Prelude.{ℕ, List}
use Rattle.pc_sheet.specs.Sheet.{Sheet}
use Rattle.pc_sheet.specs.WellFormed.{IsWellFormed}
use Rattle.pc_sortcheck.specs.Declaring.{ReadsAs}

-- what a text reads as is well sorted, within the limits, with names of its own
abbrev pub SheetsAreWellFormed : Type 0
SheetsAreWellFormed = (text : List ℕ) (sheet : Sheet) → ReadsAs text sheet → IsWellFormed sheet
