-- What a run says of lines and sheets for which its budget is enough, and how runs of commands end.
use Rattle.std.specs.Prelude.{◌≡◌, ◌≢◌, ℕ, ◌⊎◌, List, [], Some}
use Rattle.std.specs.Io.KnownBytes.{IsAtEnd}
use Rattle.pc_port.specs.Port.{Rose}
use Rattle.pc_port.specs.Shelf.{Files, file_named}
use Rattle.pc_words.specs.Words.{Mode, replays, edits, checks, merges, posts, demonstrates, Request, FitsWords, FitNothing}
use Rattle.pc_refusals.specs.declared.status.Status.{Status}
use Rattle.pc_refusals.specs.declared.status.Status.TheVariants.{Done, SomeRefused, SheetRefused, Memory, TooLong, Usage}
use Rattle.pc_refusals.specs.Endings.{memory_text}
use Rattle.pc_refusals.specs.Events.{Outside, Event}
use Rattle.pc_refusals.specs.Stages.{Stage, needs, ends_with}
use Rattle.pc_refusals.specs.Runs.{Ran}
use Rattle.pc_transcript.specs.Course.{Replay, Edit}
use Rattle.pc_journal.specs.Course.{Posts}
use Rattle.pc_spreadsheet.specs.Tasks.{State, Starts}
use Rattle.pc_spreadsheet.specs.Allowed.{Notes}
use Rattle.pc_replay.specs.Course.{usage_text, CourseIn, IsMostAhead, Runs}
use Rattle.pc_run_laws.specs.Complete.{AllowsInFull, RefusesInFull, HasEnoughFor}

-- The course in a mode, where of a run of commands the sheet and each line are told as they are judged, if the budget is enough for them.
abbrev pub CourseInFull : Mode → ℕ → Notes → (List Event → Stage → Notes → Type 0)
CourseInFull replays budget notes = Replay (Starts budget) (RefusesInFull budget) AllowsInFull notes
CourseInFull (edits file) budget notes = Edit (Starts budget) (RefusesInFull budget) AllowsInFull file notes
CourseInFull (posts file) budget notes = Posts (Starts budget) (RefusesInFull budget) AllowsInFull file notes
CourseInFull mode budget notes = CourseIn mode budget notes

-- the words don't fit; or memory is needed to read words that do; or it goes as they ask, so told
pub data FullCourse (words : List (List ℕ)) (notes : Notes) (events : List Event) : Stage → Notes → Type 0 where
  without_fit : FitNothing words → events ≡ [] → FullCourse words notes events (ends_with usage_text Usage) notes
  needs_memory : ¬ FitNothing words → events ≡ [] → FullCourse words notes events (needs memory_text) notes
  as_asked : {stage : Stage} {notes' : Notes} (request : Request) → FitsWords words request → CourseInFull request.mode request.budget notes events stage notes' → FullCourse words notes events stage notes'

-- what a run with these words did, so told
abbrev pub RunsInFull : List (List ℕ) → Status → Notes → Notes → Outside → Outside → Type 0
RunsInFull words status notes notes' before after = (most : ℕ) × IsMostAhead words most × Ran (FullCourse words notes) most status notes' before after

-- so it is of each run
abbrev pub RunsAreInFull : Type 0
RunsAreInFull = (words : List (List ℕ)) (status : Status) (notes notes' : Notes) (before after : Outside) → Runs words status notes notes' before after → RunsInFull words status notes notes' before after

-- ---- how runs of commands end

-- the modes that answer command lines of the input
abbrev pub IsOfCommands : Mode → Type 0
IsOfCommands replays = Unit {0}
IsOfCommands (edits file) = Unit {0}
IsOfCommands (checks file) = ⊥
IsOfCommands (merges file) = ⊥
IsOfCommands (posts file) = ⊥
IsOfCommands (demonstrates blocks) = ⊥

-- no count of faults has risen, and none stands at its greatest value
pub record IsFaultless (before after : Outside) : Type 0 where
  pub input : ¬ Rose before.input_faults after.input_faults
  pub shelf : ¬ Rose before.shelf_faults after.shelf_faults
  pub output : ¬ Rose before.output_faults after.output_faults

-- done, or some refused, and the input is at its end; or memory was wanting
abbrev pub IsAnswered : Status → Outside → Type 0
IsAnswered status after = (((status ≡ Done) ⊎ (status ≡ SomeRefused)) × IsAtEnd after.input) ⊎ (status ≡ Memory)

-- So ends each run of commands without a fault, where nothing was too long and the sheet wasn't refused.
abbrev pub FaultlessRunsAreAnswered : Type 0
FaultlessRunsAreAnswered =
    (words : List (List ℕ)) (request : Request) (status : Status) (notes notes' : Notes) (before after : Outside) → FitsWords words request → IsOfCommands request.mode → Runs words status notes notes' before after → IsFaultless before after
    → status ≢ TooLong → status ≢ SheetRefused → IsAnswered status after

-- So ends each run that edits a file, without a fault, where nothing was too long, whose text starts a run and has budget enough for its sheet.
abbrev pub RunsOfEnoughAreAnswered : Type 0
RunsOfEnoughAreAnswered =
    (words : List (List ℕ)) (file text : List ℕ) (budget : ℕ) (files : Files) (state : State) (status : Status) (notes notes' : Notes) (before after : Outside) → FitsWords words record { mode = edits file; budget = budget }
    → before.kept ≡ Some files → file_named file files ≡ Some text → Starts budget text state → HasEnoughFor budget text → Runs words status notes notes' before after → IsFaultless before after → status ≢ TooLong → IsAnswered status after
