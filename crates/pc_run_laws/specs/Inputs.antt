-- Runs whose sheet comes from an input that is known, or whose journal does.
use Rattle.std.specs.Prelude.{◌≡◌, ◌≢◌, ℕ, List, ◌++◌, Some}
use Rattle.pc_port.specs.Shelf.{Files, file_named}
use Rattle.pc_collab.specs.Journal.{Post}
use Rattle.pc_collab.specs.Reading.{IsTextOf}
use Rattle.pc_words.specs.Words.{replays, posts, FitsWords}
use Rattle.pc_refusals.specs.declared.status.Status.{Status}
use Rattle.pc_refusals.specs.declared.status.Status.TheVariants.{TooLong, SheetRefused}
use Rattle.pc_refusals.specs.Events.{Outside}
use Rattle.pc_transcript.specs.SheetPart.{IsSheetPart}
use Rattle.pc_spreadsheet.specs.Tasks.{State, Starts}
use Rattle.pc_spreadsheet.specs.Allowed.{Notes}
use Rattle.pc_replay.specs.Course.{Runs}
use Rattle.pc_run_laws.specs.Complete.{HasEnoughFor}
use Rattle.pc_run_laws.specs.Runs.{IsFaultless, IsAnswered}

-- an input of these bytes begins with this text, which is its part that is the sheet
pub record BeginsWithSheet (text bytes : List ℕ) : Type 0 where
  pub rest : List ℕ
  pub is : bytes ≡ text ++ rest
  pub part : IsSheetPart text (Some rest)

-- It begins with one such text.
abbrev pub InputsHaveOneSheetPart : Type 0
InputsHaveOneSheetPart = (text other bytes : List ℕ) → BeginsWithSheet text bytes → BeginsWithSheet other bytes → text ≡ other

-- So ends each run that replays an input, without a fault, where nothing was too long, whose sheet's part starts a run and has budget enough for its sheet.
abbrev pub ReplaysOfEnoughAreAnswered : Type 0
ReplaysOfEnoughAreAnswered =
    (words : List (List ℕ)) (text bytes : List ℕ) (budget : ℕ) (state : State) (status : Status) (notes notes' : Notes) (before after : Outside) → FitsWords words record { mode = replays; budget = budget }
    → before.input ≡ Some bytes → BeginsWithSheet text bytes → Starts budget text state → HasEnoughFor budget text → Runs words status notes notes' before after → IsFaultless before after → status ≢ TooLong → IsAnswered status after

-- So ends each run that answers the posts of a journal, where the input is known, without a fault, where nothing was too long and neither the sheet nor the journal was refused.
abbrev pub FaultlessPostsAreAnswered : Type 0
FaultlessPostsAreAnswered =
    (words : List (List ℕ)) (file bytes : List ℕ) (budget : ℕ) (status : Status) (notes notes' : Notes) (before after : Outside) → FitsWords words record { mode = posts file; budget = budget } → before.input ≡ Some bytes → Runs words status notes notes' before after
    → IsFaultless before after → status ≢ TooLong → status ≢ SheetRefused → IsAnswered status after

-- And so does one whose input is a journal's text, on a file from whose text a run starts that has budget enough for its sheet.
abbrev pub PostsOfEnoughAreAnswered : Type 0
PostsOfEnoughAreAnswered =
    (words : List (List ℕ)) (file text bytes : List ℕ) (journal : List Post) (budget : ℕ) (files : Files) (state : State) (status : Status) (notes notes' : Notes) (before after : Outside) → FitsWords words record { mode = posts file; budget = budget }
    → before.kept ≡ Some files → file_named file files ≡ Some text → Starts budget text state → HasEnoughFor budget text → before.input ≡ Some bytes → IsTextOf bytes journal → Runs words status notes notes' before after → IsFaultless before after → status ≢ TooLong → IsAnswered status after
