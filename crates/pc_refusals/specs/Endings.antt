-- How a run ends: by a status, and by what is printed.
use Rattle.std.specs.Prelude.{◌≡◌, ℕ, ◌⊎◌, List, ◌++◌, codes, take}
use Rattle.std.specs.declared.option.Option.{Option}
use Rattle.std.specs.Io.KnownBytes.{Appends}
use Rattle.pc_port.specs.Port.{AppendsFront}
use Rattle.pc_writer.specs.SheetText.{ended}
use Rattle.pc_refusals.specs.declared.status.Status.{Status}
use Rattle.pc_refusals.specs.declared.status.Status.TheVariants.{Done, SomeRefused, Usage, SheetRefused, ReadFault, WriteFault, Memory, TooLong, CertRefused}

-- the number that a process ends with
abbrev pub number_of : Status → ℕ
number_of Done = 0
number_of SomeRefused = 1
number_of Usage = 2
number_of SheetRefused = 3
number_of ReadFault = 4
number_of WriteFault = 5
number_of Memory = 6
number_of TooLong = 7
number_of CertRefused = 8

-- ---- lines that end a run

-- that memory was wanting
abbrev pub memory_text : List ℕ
memory_text = ended (codes "refused 15 memory")

-- that memory was wanting for the sheet, or before it
abbrev pub sheet_memory_text : List ℕ
sheet_memory_text = ended (codes "sheet refused 15 memory")

abbrev pub too_long_text : List ℕ
too_long_text = ended (codes "refused 19 too-long")

-- the text was written and this is the status, or a front of it was and a write failed
abbrev pub TellsAtEnd : Status → List ℕ → Status → Option (List ℕ) → Option (List ℕ) → Type 0
TellsAtEnd status text result sink sink' = ((result ≡ status) × Appends sink sink' text) ⊎ ((result ≡ WriteFault) × AppendsFront sink sink' text)

-- ---- what is printed

-- what is printed: one text, and then a last piece, of which a failed write leaves a front
pub record Printing : Type 0 where
  pub before : List ℕ
  pub last : List ℕ

abbrev pub printed : List ℕ → List ℕ → Printing
printed before last = record { before = before; last = last }

-- the text was written but for the last piece, of which a front was
pub record AppendsPart (sink sink' : Option (List ℕ)) (text : Printing) : Type 0 where
  pub count : ℕ
  pub written : Appends sink sink' (text.before ++ take count text.last)

-- all of the text was written, but where a write failed a front of its last piece
abbrev pub IsPrinted : Status → Option (List ℕ) → Option (List ℕ) → Printing → Type 0
IsPrinted WriteFault sink sink' text = AppendsPart sink sink' text
IsPrinted status sink sink' text = Appends sink sink' (text.before ++ text.last)
