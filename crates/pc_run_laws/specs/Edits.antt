-- What a run of commands on a file's sheet says by its status: what the shelf was asked for, what was taken from the input, what was to
-- be printed, how much of it was, and what was noted.
use Rattle.std.specs.Prelude.{◌≡◌, ℕ, ◌≤◌, List, [], ◌++◌, length}
use Rattle.std.specs.declared.option.Option.{Option}
use Rattle.pc_port.specs.Port.{Rose}
use Rattle.pc_lines.specs.declared.TheConstants.{SHEET_LIMIT}
use Rattle.pc_refusals.specs.declared.refusal.SheetRefusal.{SheetRefusal}
use Rattle.pc_refusals.specs.declared.status.Status.{Status}
use Rattle.pc_refusals.specs.declared.status.Status.TheVariants.{SheetRefused, ReadFault, WriteFault, Memory, TooLong}
use Rattle.pc_refusals.specs.Refusals.{sheet_refusal_text}
use Rattle.pc_refusals.specs.Endings.{Printing, printed, IsPrinted}
use Rattle.pc_lines.specs.Files.{AsksOnce, TakesFile}
use Rattle.pc_refusals.specs.Files.{LacksFile, LacksMemoryForFile, HasLongFile}
use Rattle.pc_transcript.specs.Answer.{Answer}
use Rattle.pc_run_laws.specs.Moments.{Moment}
use Rattle.pc_run_laws.specs.Answered.{AnswersAll, AnswersTaken, StopsAtLimit, AnswersSome}

-- A sheet is read from the file, and from its state and the notes the command lines of the input were answered so.
pub record OpensFile {S N : Type 0} (IsSheet : List ℕ → S → Type 0) (file : List ℕ) (before after : Moment N) (Answers : S × N → S × N → Option (List ℕ) → Option (List ℕ) → Type 0) : Type 0 where
  pub sheet : List ℕ
  pub takes : TakesFile before.outside.kept file before.outside.asked after.outside.asked sheet
  pub small : length sheet ≤ SHEET_LIMIT
  pub start : S
  pub is : IsSheet sheet start
  pub end : S
  pub answers : Answers (start, before.notes) (end, after.notes) before.outside.input after.outside.input

-- which texts are sheets, which refusal another text has with what follows it, and what may answer a line; and the file's name
module _ {S N : Type 0} (IsSheet : List ℕ → S → Type 0) (Refuses : List ℕ → SheetRefusal → List ℕ → N → N → Type 0) (Allows : S × N → List ℕ → Answer → S × N → Type 0) (file : List ℕ) where
  -- A line ends it. At the file the input stays as it was: memory is wanting for the file, its sheet or the room of a line before it; the
  -- file is too long, or refused, with what is told after that. Or a command line passes a limit.
  pub data EditStops (text : Printing) (before after : Moment N) : Status → Type 0 where
    lacks_memory : LacksMemoryForFile file text before.outside.asked after.outside.asked before.outside.input after.outside.input → after.notes ≡ before.notes → EditStops text before after Memory
    has_long_file : HasLongFile before.outside.kept file text before.outside.asked after.outside.asked before.outside.input after.outside.input → after.notes ≡ before.notes → EditStops text before after TooLong
    refuses_file : (sheet : List ℕ) (why : SheetRefusal) (more : List ℕ) → TakesFile before.outside.kept file before.outside.asked after.outside.asked sheet → length sheet ≤ SHEET_LIMIT → Refuses sheet why more before.notes after.notes
        → after.outside.input ≡ before.outside.input → text ≡ printed [] (sheet_refusal_text why ++ more) → EditStops text before after SheetRefused
    passes_limit : OpensFile IsSheet file before after (λ start end. StopsAtLimit Allows start end text) → EditStops text before after TooLong

  -- It came to its end in this status, and this was to be printed: a line ended it; a read failed, the shelf's one or one of the input, and
  -- of the two that device alone was at fault; or the command lines were answered to the end of the input. Or a write failed: of the line
  -- that would have ended it, or of an answer.
  pub data Edits (text : Printing) (before after : Moment N) : Status → Type 0 where
    stops : (status : Status) → EditStops text before after status → Edits text before after status
    lacks_file : LacksFile file text before.outside.asked after.outside.asked before.outside.input after.outside.input → after.notes ≡ before.notes
        → Rose before.outside.shelf_faults after.outside.shelf_faults → after.outside.input_faults ≡ before.outside.input_faults → Edits text before after ReadFault
    fails_at_lines : OpensFile IsSheet file before after (λ start end. AnswersTaken Allows start end text)
        → Rose before.outside.input_faults after.outside.input_faults → after.outside.shelf_faults ≡ before.outside.shelf_faults → Edits text before after ReadFault
    answers_all : (status : Status) → OpensFile IsSheet file before after (λ start end. AnswersAll Allows start end status text) → Edits text before after status
    cut_at_end : (status : Status) → EditStops text before after status → Edits text before after WriteFault
    cut_at_answer : OpensFile IsSheet file before after (λ start end. AnswersSome Allows start end text) → Edits text before after WriteFault

  -- how it went, how much of it was printed, and that the shelf was asked for the file at most once
  pub record Edited (status : Status) (before after : Moment N) : Type 0 where
    pub text : Printing
    pub course : Edits text before after status
    pub written : IsPrinted status before.outside.output after.outside.output text
    pub asks : AsksOnce file before.outside.asked after.outside.asked
