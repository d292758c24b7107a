-- What a shelf's file gives as a sheet's text.
use Rattle.std.specs.Prelude.{◌≡◌, ℕ, ◌<◌, ◌≤◌, ◌⊎◌, List, [], ◌∷◌, ◌++◌, length, Some, IfSome, Vec, Result, Ok, Err}
use Rattle.std.specs.declared.alloc.Global.{Global}
use Rattle.std.specs.declared.option.Option.{Option}
use Rattle.pc_port.specs.Port.{Rose}
use Rattle.pc_port.specs.Shelf.{Files, file_named}
use Rattle.pc_lines.specs.declared.TheConstants.{SHEET_LIMIT}
use Rattle.pc_lines.specs.declared.file.SheetStop.{SheetStop}
use Rattle.pc_lines.specs.declared.file.SheetStop.TheVariants.{Failed, TooLong, Memory}

-- the shelf was asked for nothing, or once, for the file
abbrev pub AsksOnce : List ℕ → List (List ℕ) → List (List ℕ) → Type 0
AsksOnce file asked asked' = (asked' ≡ asked) ⊎ (asked' ≡ asked ++ file ∷ [])

-- the shelf was asked once, for the file; and where it tells its files, the text is all that the file has
pub record TakesFile (kept : Option Files) (file : List ℕ) (asked asked' : List (List ℕ)) (text : List ℕ) : Type 0 where
  pub once : asked' ≡ asked ++ file ∷ []
  pub whole : IfSome kept (λ files. file_named file files ≡ Some text)

-- the same of a text that is longer than a sheet may be
pub record TakesLongFile (kept : Option Files) (file : List ℕ) (asked asked' : List (List ℕ)) : Type 0 where
  pub text : List ℕ
  pub takes : TakesFile kept file asked asked' text
  pub long : SHEET_LIMIT < length text

-- what taking the file as a sheet's text gives
abbrev pub FileGives : Option Files → List ℕ → Result (Vec ℕ Global) SheetStop → List (List ℕ) → List (List ℕ) → Type 0
FileGives kept file (Ok text) asked asked' = TakesFile kept file asked asked' text.items × (length text.items ≤ SHEET_LIMIT)
FileGives kept file (Err Failed) asked asked' = asked' ≡ asked ++ file ∷ []
FileGives kept file (Err TooLong) asked asked' = TakesLongFile kept file asked asked'
FileGives kept file (Err Memory) asked asked' = asked' ≡ asked

-- One device was at fault: the shelf, and the input was left as it was; or the input, and the shelf wasn't at fault. The counts
-- are those of the shelf's faults, before and after.
abbrev pub FailsToRead : {I : Type 0} → (I → ℕ) → I → I → ℕ → ℕ → Type 0
FailsToRead faults input input' shelf shelf' = ((input' ≡ input) × Rose shelf shelf') ⊎ (Rose (faults input) (faults input') × (shelf' ≡ shelf))
