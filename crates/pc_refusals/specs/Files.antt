-- What ends a run at a shelf's file: the input stays as it was.
use Rattle.std.specs.Prelude.{◌≡◌, ℕ, List, [], ◌∷◌, ◌++◌}
use Rattle.std.specs.declared.option.Option.{Option}
use Rattle.pc_port.specs.Shelf.{Files}
use Rattle.pc_lines.specs.Files.{AsksOnce, TakesLongFile}
use Rattle.pc_lines.specs.declared.file.SheetStop.{SheetStop}
use Rattle.pc_lines.specs.declared.file.SheetStop.TheVariants.{Failed, TooLong, Memory}
use Rattle.pc_refusals.specs.declared.status.Status.{Status}
use Rattle.pc_refusals.specs.declared.status.Status.TheVariants as status
use Rattle.pc_refusals.specs.Endings.{Printing, printed, TellsAtEnd, too_long_text, sheet_memory_text}

-- What is told where the shelf gives no sheet's text: nothing of a failed read, that the file is too long, or this line where memory was wanting.
abbrev pub TellsFileStop : List ℕ → SheetStop → Status → Option (List ℕ) → Option (List ℕ) → Type 0
TellsFileStop lack Failed result sink sink' = (result ≡ status.ReadFault) × (sink' ≡ sink)
TellsFileStop lack TooLong result sink sink' = TellsAtEnd status.TooLong too_long_text result sink sink'
TellsFileStop lack Memory result sink sink' = TellsAtEnd status.Memory lack result sink sink'

-- the shelf's one read failed, and nothing was to be printed
pub record LacksFile (file : List ℕ) (text : Printing) (asked asked' : List (List ℕ)) (source source' : Option (List ℕ)) : Type 0 where
  pub once : asked' ≡ asked ++ file ∷ []
  pub unread : source' ≡ source
  pub text_is : text ≡ printed [] []

-- there was no memory for the file or for its sheet
pub record LacksMemoryForFile (file : List ℕ) (text : Printing) (asked asked' : List (List ℕ)) (source source' : Option (List ℕ)) : Type 0 where
  pub asks : AsksOnce file asked asked'
  pub unread : source' ≡ source
  pub text_is : text ≡ printed [] sheet_memory_text

-- the file has more than a sheet may have, and this is told
pub record HasLongFile (kept : Option Files) (file : List ℕ) (text : Printing) (asked asked' : List (List ℕ)) (source source' : Option (List ℕ)) : Type 0 where
  pub takes : TakesLongFile kept file asked asked'
  pub unread : source' ≡ source
  pub text_is : text ≡ printed [] too_long_text
