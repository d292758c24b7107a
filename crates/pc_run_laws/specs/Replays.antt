-- What a run from the input says by its status: what was taken, what was to be printed, how much of it was, and what was noted.
use Rattle.std.specs.Prelude.{◌≡◌, ℕ, ◌+◌, ◌≤◌, List, [], ◌++◌, length}
use Rattle.std.specs.declared.option.Option.{Option}
use Rattle.std.specs.Io.KnownBytes.{Consumes}
use Rattle.pc_lines.specs.declared.TheConstants.{SHEET_LIMIT}
use Rattle.pc_refusals.specs.declared.refusal.SheetRefusal.{SheetRefusal}
use Rattle.pc_refusals.specs.declared.status.Status.{Status}
use Rattle.pc_refusals.specs.declared.status.Status.TheVariants.{SheetRefused, ReadFault, WriteFault, Memory, TooLong}
use Rattle.pc_refusals.specs.Refusals.{sheet_refusal_text}
use Rattle.pc_refusals.specs.Endings.{Printing, printed, too_long_text, sheet_memory_text, IsPrinted}
use Rattle.pc_transcript.specs.Answer.{Answer}
use Rattle.pc_transcript.specs.SheetTaking.{TakesSheet, IsSheetFront, StopsInSheet}
use Rattle.pc_run_laws.specs.Moments.{Moment}
use Rattle.pc_run_laws.specs.Answered.{IsReadAhead, AnswersAll, AnswersTaken, StopsAtLimit, AnswersSome}

-- what was taken of the sheet's part is one byte longer than it may be
pub record PassesSheetLimit (source source' : Option (List ℕ)) : Type 0 where
  pub text : List ℕ
  pub front : IsSheetFront text
  pub long : length text ≡ SHEET_LIMIT + 1
  pub rest : Option (List ℕ)
  pub taken : Consumes source rest text
  pub ahead : IsReadAhead rest source'

-- so much of the sheet's part was taken, within the limit, perhaps nothing
pub record HasTaken (source source' : Option (List ℕ)) : Type 0 where
  pub text : List ℕ
  pub front : IsSheetFront text
  pub small : length text ≤ SHEET_LIMIT
  pub rest : Option (List ℕ)
  pub taken : Consumes source rest text
  pub ahead : IsReadAhead rest source'

-- The sheet's part was taken, a sheet is read from it, and from its state and the notes the rest of the input was answered so.
pub record Opens {S N : Type 0} (IsSheet : List ℕ → S → Type 0) (before after : Moment N) (Answers : S × N → S × N → Option (List ℕ) → Option (List ℕ) → Type 0) : Type 0 where
  pub sheet : List ℕ
  pub rest : Option (List ℕ)
  pub takes : TakesSheet sheet before.outside.input rest
  pub start : S
  pub is : IsSheet sheet start
  pub end : S
  pub answers : Answers (start, before.notes) (end, after.notes) rest after.outside.input

-- which texts are sheets, which refusal another text has with what follows it, and what may answer a line
module _ {S N : Type 0} (IsSheet : List ℕ → S → Type 0) (Refuses : List ℕ → SheetRefusal → List ℕ → N → N → Type 0) (Allows : S × N → List ℕ → Answer → S × N → Type 0) where
  -- A line ends it: memory is wanting for the sheet or for the room of a line before it; the sheet's part is too long, or is refused,
  -- with what is told after that; or a command line passes a limit.
  pub data ReplayStops (text : Printing) (before after : Moment N) : Status → Type 0 where
    lacks_memory : HasTaken before.outside.input after.outside.input → after.notes ≡ before.notes → text ≡ printed [] sheet_memory_text → ReplayStops text before after Memory
    has_long_sheet : PassesSheetLimit before.outside.input after.outside.input → after.notes ≡ before.notes → text ≡ printed [] too_long_text → ReplayStops text before after TooLong
    refuses_sheet : (sheet : List ℕ) (rest : Option (List ℕ)) (why : SheetRefusal) (more : List ℕ) → TakesSheet sheet before.outside.input rest → Refuses sheet why more before.notes after.notes → IsReadAhead rest after.outside.input
        → text ≡ printed [] (sheet_refusal_text why ++ more) → ReplayStops text before after SheetRefused
    passes_limit : Opens IsSheet before after (λ start end. StopsAtLimit Allows start end text) → ReplayStops text before after TooLong

  -- It came to its end in this status, and this was to be printed: a line ended it; a read failed, in the sheet's part or at the command
  -- lines; or these were answered to the end of the input. Or a write failed: of the line that would have ended it, or of an answer.
  pub data Replays (text : Printing) (before after : Moment N) : Status → Type 0 where
    stops : (status : Status) → ReplayStops text before after status → Replays text before after status
    fails_in_sheet : StopsInSheet before.outside.input after.outside.input → after.notes ≡ before.notes → text ≡ printed [] [] → Replays text before after ReadFault
    fails_at_lines : Opens IsSheet before after (λ start end. AnswersTaken Allows start end text) → Replays text before after ReadFault
    answers_all : (status : Status) → Opens IsSheet before after (λ start end. AnswersAll Allows start end status text) → Replays text before after status
    cut_at_end : (status : Status) → ReplayStops text before after status → Replays text before after WriteFault
    cut_at_answer : Opens IsSheet before after (λ start end. AnswersSome Allows start end text) → Replays text before after WriteFault

  -- how it went, and how much of it was printed
  pub record Replayed (status : Status) (before after : Moment N) : Type 0 where
    pub text : Printing
    pub course : Replays text before after status
    pub written : IsPrinted status before.outside.output after.outside.output text
