-- How it is told that a text is no journal's, and that two journals differ.
use Rattle.std.specs.Prelude.{ℕ, List, ◌++◌, codes, decimal}
use Rattle.pc_collab.specs.Reading.{LineFault, bad_line, gap, out_of_order}
use Rattle.pc_collab.specs.declared.reading.JournalFault.{JournalFault}
use Rattle.pc_collab.specs.declared.reading.JournalFault.TheVariants.{BadLine, Gap, OutOfOrder, Memory}
use Rattle.pc_refusals.specs.declared.status.Status.{Status}
use Rattle.pc_refusals.specs.declared.status.Status.TheVariants.{SheetRefused}
use Rattle.pc_refusals.specs.declared.status.Status.TheVariants as status
use Rattle.pc_refusals.specs.Endings.{TellsAtEnd, memory_text}
use Rattle.std.specs.declared.option.Option.{Option}

-- where a journal's text comes from
abbrev pub from_file : List ℕ
from_file = codes "file"

abbrev pub from_input : List ℕ
from_input = codes "input"

-- what a line is at fault for, by its number and its word
abbrev pub words_of : LineFault → List ℕ
words_of bad_line = codes "journal refused 22 bad-line "
words_of gap = codes "journal refused 23 gap "
words_of out_of_order = codes "journal refused 24 out-of-order "

-- the line that tells it, with where the text comes from and the number of the line at fault
abbrev pub refused_text : List ℕ → LineFault → ℕ → List ℕ
refused_text place fault line = words_of fault ++ (place ++ ((codes " line " ++ decimal line) ++ codes "\n"))

-- the line that tells that two journals have different posts of this author and number
abbrev pub differ_text : ℕ → ℕ → List ℕ
differ_text author number = (codes "journal refused 25 differ author " ++ decimal author) ++ ((codes " number " ++ decimal number) ++ codes "\n")

-- a fault of a text from there was told at the end of a run, or that memory was wanted
abbrev pub TellsFault : List ℕ → JournalFault → Status → Option (List ℕ) → Option (List ℕ) → Type 0
TellsFault place (BadLine line) result sink sink' = TellsAtEnd SheetRefused (refused_text place bad_line line) result sink sink'
TellsFault place (Gap line) result sink sink' = TellsAtEnd SheetRefused (refused_text place gap line) result sink sink'
TellsFault place (OutOfOrder line) result sink sink' = TellsAtEnd SheetRefused (refused_text place out_of_order line) result sink sink'
TellsFault place Memory result sink sink' = TellsAtEnd status.Memory memory_text result sink sink'
