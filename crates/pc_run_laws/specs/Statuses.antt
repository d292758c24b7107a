-- What a run's status says of what it answered, of what it refused, and of what ended it early.
use Rattle.std.specs.Prelude.{◌≡◌, ℕ, ◌≤◌, ◌⊎◌, true, false, List, [], ◌∷◌, ◌++◌, codes, length, map, take, All}
use Rattle.std.specs.List.{list_any, flat_map}
use Rattle.pc_sheet.specs.Sheet.{Sheet}
use Rattle.pc_sortcheck.specs.Declaring.{ReadsAs}
use Rattle.pc_cert.specs.declared.TheConstants.{CERT_LIMIT}
use Rattle.pc_checker.specs.declared.verdict.Verdict.TheVariants.{Accepted}
use Rattle.pc_collab.specs.declared.TheConstants.{JOURNAL_LIMIT}
use Rattle.pc_collab.specs.Journal.{Post}
use Rattle.pc_collab.specs.Reading.{IsTextOf, LineFault, IsFirstFaultOfJournal}
use Rattle.pc_collab.specs.Merge.{IsMerge, DifferFirstAt}
use Rattle.pc_collab.specs.Text.{journal_text}
use Rattle.pc_gen.specs.Text.{generated_text}
use Rattle.pc_lines.specs.Lines.{lines_of}
use Rattle.pc_load.specs.Outcome.{HasFault}
use Rattle.pc_words.specs.Words.{Mode, replays, edits, checks, merges, posts, demonstrates, Request, FitsWords}
use Rattle.pc_lines.specs.declared.TheConstants.{SHEET_LIMIT}
use Rattle.pc_refusals.specs.declared.refusal.SheetRefusal.{SheetRefusal}
use Rattle.pc_refusals.specs.declared.status.Status.{Status}
use Rattle.pc_refusals.specs.declared.status.Status.TheVariants.{Done, SomeRefused, SheetRefused, ReadFault, WriteFault, TooLong}
use Rattle.pc_refusals.specs.Refusals.{sheet_refusal_text}
use Rattle.pc_refusals.specs.Endings.{too_long_text}
use Rattle.pc_refusals.specs.Events.{Outside, Event, took, took_rest, gave, told, input_failed, shelf_failed, output_failed}
use Rattle.pc_refusals.specs.Stages.{Intake, sheet_line, line_within, no_line_within, rest_within, sheet_file, takes, ends_with, IsLine, CanBegin, PassesLimit}
use Rattle.pc_refusals.specs.Runs.{Comes}
use Rattle.pc_run_laws.specs.Flat.{told_in}
use Rattle.pc_transcript.specs.declared.TheConstants.{LINE_LIMIT, MAX_LINES}
use Rattle.pc_transcript.specs.Answer.{Answer, answer_text, is_refused, is_no_memory}
use Rattle.pc_transcript.specs.Transcript.{Transcript, Legal, lines, input_of}
use Rattle.pc_transcript.specs.Course.{events_of, IsSheetTaken}
use Rattle.pc_judge.specs.declared.told.Told.TheVariants.{Verdict}
use Rattle.pc_judge.specs.Judged.{IsJudged, judged_text}
use Rattle.pc_journal.specs.Course.{answers_told}
use Rattle.pc_journal.specs.PostLines.{lines_of_posts}
use Rattle.pc_journal.specs.Told.{from_file, from_input, refused_text, differ_text}
use Rattle.pc_demo.specs.Demonstration.{Clears, told_of, Loads}
use Rattle.pc_demo.specs.Summing.{SumsUp}
use Rattle.pc_spreadsheet.specs.Tasks.{State, Starts}
use Rattle.pc_spreadsheet.specs.Allowed.{Notes, Allows, RefusesText}
use Rattle.pc_session.specs.NoteViews.{NoteView}
use Rattle.pc_replay.specs.Course.{CourseIn, Course, Runs}

-- ---- lines that are answered

-- all the lines of an input are answered, each in the state and with the notes that the ones before it leave, and none passes a limit
pub record AnswersInput (old new : State × Notes) (t : Transcript) : Type 0 where
  pub legal : Legal Allows old t new
  pub all : lines t ≡ lines_of (input_of t)
  pub each : All (IsLine LINE_LIMIT) (lines t)
  pub count : length t ≤ MAX_LINES

-- These events are that all lines of the mode were answered so: those of the input to its end, behind its sheet or on the file's; those of
-- the posts of the input's journal, on the file's sheet; or those that clear a cell of each block of the generated sheet, which is summed
-- up before and after.
pub data AnswersAll (budget : ℕ) (notes notes' : Notes) (events : List Event) (t : Transcript) : Mode → Type 0 where
  of_input : (text : List ℕ) (taken : List Event) (start end : State) → IsSheetTaken text taken → Starts budget text start → AnswersInput (start, notes) (end, notes') t → events ≡ taken ++ (events_of t ++ took_rest [] ∷ []) → AnswersAll budget notes notes' events t replays
  on_file : (file text : List ℕ) (start end : State) → length text ≤ SHEET_LIMIT → Starts budget text start → AnswersInput (start, notes) (end, notes') t → events ≡ gave file text ∷ (events_of t ++ took_rest [] ∷ []) → AnswersAll budget notes notes' events t (edits file)
  of_posts : (file text journal : List ℕ) (a : List Post) (start end : State) → length text ≤ SHEET_LIMIT → Starts budget text start → length journal ≤ JOURNAL_LIMIT → IsTextOf journal a → Legal Allows (start, notes) t (end, notes') → lines t ≡ lines_of_posts a
      → events ≡ gave file text ∷ (took_rest journal ∷ answers_told t) → AnswersAll budget notes notes' events t (posts file)
  of_blocks : (blocks : ℕ) (start end : State) (loaded cleared : List ℕ) → Loads blocks budget start loaded → Clears blocks (start, notes) (end, notes') t → SumsUp (codes "cleared") end.sheet cleared
      → events ≡ (told loaded ∷ map (λ pair. told (told_of pair.1)) t) ++ told cleared ∷ [] → AnswersAll budget notes notes' events t (demonstrates blocks)

-- ---- a run that is done

-- All lines were answered, and none was refused or wanted memory; or the certificate was accepted, in the sheet that the file's text reads
-- as, and was all of the input; or the journals of the file and of all the input were merged.
pub data IsDone (words : List (List ℕ)) (notes notes' : Notes) (events : List Event) : Type 0 where
  answered : (request : Request) (t : Transcript) → FitsWords words request → AnswersAll request.budget notes notes' events t request.mode → list_any (λ pair. is_refused pair.1) t ≡ false → list_any (λ pair. is_no_memory pair.1) t ≡ false → IsDone words notes notes' events
  accepted : (request : Request) (file text certificate : List ℕ) (sheet : Sheet) → FitsWords words request → request.mode ≡ checks file → length text ≤ SHEET_LIMIT → ReadsAs text sheet → length certificate ≤ CERT_LIMIT → IsJudged sheet certificate (Verdict Accepted)
      → events ≡ gave file text ∷ took_rest certificate ∷ told (judged_text sheet (Verdict Accepted)) ∷ [] → notes' ≡ notes → IsDone words notes notes' events
  merged : (request : Request) (file text journal : List ℕ) (a b both : List Post) → FitsWords words request → request.mode ≡ merges file → length text ≤ SHEET_LIMIT → IsTextOf text a → length journal ≤ JOURNAL_LIMIT → IsTextOf journal b → IsMerge a b both
      → events ≡ gave file text ∷ took_rest journal ∷ told (journal_text both) ∷ [] → notes' ≡ notes → IsDone words notes notes' events

-- all lines were answered, and some was refused, but none wanted memory
pub record HasRefused (words : List (List ℕ)) (notes notes' : Notes) (events : List Event) : Type 0 where
  pub request : Request
  pub t : Transcript
  pub fits : FitsWords words request
  pub answered : AnswersAll request.budget notes notes' events t request.mode
  pub some_refused : list_any (λ pair. is_refused pair.1) t ≡ true
  pub none_wanting : list_any (λ pair. is_no_memory pair.1) t ≡ false

-- all lines were answered, and some wanted memory
pub record HasWanting (words : List (List ℕ)) (notes notes' : Notes) (events : List Event) : Type 0 where
  pub request : Request
  pub t : Transcript
  pub fits : FitsWords words request
  pub answered : AnswersAll request.budget notes notes' events t request.mode
  pub some_wanting : list_any (λ pair. is_no_memory pair.1) t ≡ true

-- ---- a sheet or a journal that is refused

-- What happened before this line refuses the sheet: that of the input, of the file or of the generated text; or, in a check, for a fault
-- alone; or it refuses the text of a file or an input that is no journal's (where there are posts to answer, on a sheet that a run starts from), or
-- two journals that differ.
pub data RefusesSheet (budget : ℕ) (notes notes' : Notes) (events : List Event) (line : List ℕ) : Mode → Type 0 where
  refuses_input : (text : List ℕ) (why : SheetRefusal) (more : List ℕ) → IsSheetTaken text events → RefusesText budget text why more notes notes' → line ≡ sheet_refusal_text why ++ more → RefusesSheet budget notes notes' events line replays
  refuses_file : (file text : List ℕ) (why : SheetRefusal) (more : List ℕ) → length text ≤ SHEET_LIMIT → RefusesText budget text why more notes notes' → events ≡ gave file text ∷ [] → line ≡ sheet_refusal_text why ++ more → RefusesSheet budget notes notes' events line (edits file)
  refuses_to_post : (file text : List ℕ) (why : SheetRefusal) (more : List ℕ) → length text ≤ SHEET_LIMIT → RefusesText budget text why more notes notes' → events ≡ gave file text ∷ [] → line ≡ sheet_refusal_text why ++ more → RefusesSheet budget notes notes' events line (posts file)
  refuses_blocks : (blocks : ℕ) (why : SheetRefusal) (more : List ℕ) → RefusesText budget (generated_text blocks) why more notes notes' → events ≡ [] → line ≡ sheet_refusal_text why ++ more → RefusesSheet budget notes notes' events line (demonstrates blocks)
  refuses_to_check : (file text : List ℕ) (why : SheetRefusal) → length text ≤ SHEET_LIMIT → HasFault text why → ((read : Sheet) → ¬ ReadsAs text read) → events ≡ gave file text ∷ [] → line ≡ sheet_refusal_text why → notes' ≡ notes → RefusesSheet budget notes notes' events line (checks file)
  no_journal_of_file : (file text : List ℕ) (number : ℕ) (fault : LineFault) → length text ≤ SHEET_LIMIT → IsFirstFaultOfJournal text number fault → events ≡ gave file text ∷ [] → line ≡ refused_text from_file fault number → notes' ≡ notes → RefusesSheet budget notes notes' events line (merges file)
  no_journal_to_merge : (file text journal : List ℕ) (number : ℕ) (fault : LineFault) → length journal ≤ JOURNAL_LIMIT → IsFirstFaultOfJournal journal number fault → events ≡ gave file text ∷ took_rest journal ∷ [] → line ≡ refused_text from_input fault number → notes' ≡ notes
      → RefusesSheet budget notes notes' events line (merges file)
  no_journal_to_post : (file text journal : List ℕ) (start : State) (number : ℕ) (fault : LineFault) → length text ≤ SHEET_LIMIT → Starts budget text start → length journal ≤ JOURNAL_LIMIT → IsFirstFaultOfJournal journal number fault
      → events ≡ gave file text ∷ took_rest journal ∷ [] → line ≡ refused_text from_input fault number → notes' ≡ notes → RefusesSheet budget notes notes' events line (posts file)
  refuses_both : (file text journal : List ℕ) (a b : List Post) (author number : ℕ) → IsTextOf text a → IsTextOf journal b → DifferFirstAt a b author number → events ≡ gave file text ∷ took_rest journal ∷ [] → line ≡ differ_text author number → notes' ≡ notes
      → RefusesSheet budget notes notes' events line (merges file)

-- the words ask for a mode in which what happened before the last line refuses the sheet, and that line tells it
pub record IsSheetRefused (words : List (List ℕ)) (notes notes' : Notes) (events : List Event) : Type 0 where
  pub request : Request
  pub fits : FitsWords words request
  pub earlier : List Event
  pub line : List ℕ
  pub refuses : RefusesSheet request.budget notes notes' earlier line request.mode
  pub events_are : events ≡ earlier ++ told line ∷ []

-- ---- what is taken in

-- the mode has this file
abbrev pub HasFileNamed : Mode → List ℕ → Type 0
HasFileNamed (edits file) name = name ≡ file
HasFileNamed (checks file) name = name ≡ file
HasFileNamed (merges file) name = name ≡ file
HasFileNamed (posts file) name = name ≡ file
HasFileNamed mode name = ⊥

-- the mode answers command lines of the input
abbrev pub TakesLines : Mode → Type 0
TakesLines replays = Unit {0}
TakesLines (edits file) = Unit {0}
TakesLines mode = ⊥

-- the mode takes all of the input, within this limit
abbrev pub TakesRest : Mode → ℕ → Type 0
TakesRest (checks file) limit = limit ≡ CERT_LIMIT
TakesRest (merges file) limit = limit ≡ JOURNAL_LIMIT
TakesRest (posts file) limit = limit ≡ JOURNAL_LIMIT
TakesRest mode limit = ⊥

-- what each mode takes in, and within which limit
abbrev pub TakesIn : Mode → Intake → Type 0
TakesIn mode (sheet_line text) = mode ≡ replays
TakesIn mode (line_within limit) = TakesLines mode × (limit ≡ LINE_LIMIT)
TakesIn mode (no_line_within limit) = TakesLines mode × (limit ≡ LINE_LIMIT)
TakesIn mode (rest_within limit) = TakesRest mode limit
TakesIn mode (sheet_file name) = HasFileNamed mode name

-- what was taken in passes its limit, and this is told
pub record PassesItsLimit (words : List (List ℕ)) (notes notes' : Notes) (events : List Event) : Type 0 where
  pub request : Request
  pub fits : FitsWords words request
  pub earlier : List Event
  pub intake : Intake
  pub event : Event
  pub comes : CourseIn request.mode request.budget notes earlier (takes intake) notes'
  pub takes_in : TakesIn request.mode intake
  pub passes : PassesLimit intake event
  pub events_are : events ≡ earlier ++ event ∷ told too_long_text ∷ []

-- A read of the input failed, where so much of what was to be taken in was; or the one read of the shelf did, which comes first. Nothing
-- was told of it.
pub data FailsToTake (words : List (List ℕ)) (notes notes' : Notes) (events : List Event) : Type 0 where
  at_input : (request : Request) (earlier : List Event) (intake : Intake) (begun : List ℕ) → FitsWords words request → CourseIn request.mode request.budget notes earlier (takes intake) notes' → TakesIn request.mode intake → CanBegin intake begun
      → events ≡ earlier ++ took begun ∷ input_failed ∷ [] → FailsToTake words notes notes' events
  at_file : (request : Request) (file : List ℕ) → FitsWords words request → HasFileNamed request.mode file → events ≡ shelf_failed file ∷ [] → notes' ≡ notes → FailsToTake words notes notes' events

-- ---- a write that failed

-- at most one more was noted
abbrev pub IsOneMore : Notes → Notes → Type 0
IsOneMore old new = (new ≡ old) ⊎ ((note : NoteView) × (new ≡ old ++ note ∷ []))

-- what the mode tells of an answer
abbrev pub told_by : Mode → Answer → List ℕ
told_by (demonstrates blocks) answer = told_of answer
told_by mode answer = answer_text answer

-- A front of a piece was told, and then nothing: of the piece that ends the run; of the counts of the generated sheet; or of an answer,
-- behind those of the lines before it, which were told whole, in a demonstration behind the counts. Then at most one more was noted than
-- by these.
pub data FailsToTell (words : List (List ℕ)) (notes notes' : Notes) (events : List Event) : Type 0 where
  at_last : (earlier : List Event) (line : List ℕ) (status : Status) (count : ℕ) → Comes (Course words notes) earlier (ends_with line status) notes' → events ≡ earlier ++ told (take count line) ∷ output_failed ∷ [] → FailsToTell words notes notes' events
  at_loaded : (request : Request) (blocks count : ℕ) (loaded : List ℕ) → FitsWords words request → request.mode ≡ demonstrates blocks → notes' ≡ notes → events ≡ told (take count loaded) ∷ output_failed ∷ [] → FailsToTell words notes notes' events
  at_answer : (request : Request) (start end : State) (mid : State × Notes) (t : Transcript) (line : List ℕ) (answer : Answer) (first : List ℕ) (earlier : List Event) (count : ℕ) → FitsWords words request → Legal Allows (start, notes) t mid
      → Allows mid line answer (end, notes') → IsOneMore mid.1 notes' → told_in earlier ≡ first ++ flat_map (λ pair. told_by request.mode pair.1) t → events ≡ earlier ++ told (take count (told_by request.mode answer)) ∷ output_failed ∷ [] → FailsToTell words notes notes' events

-- ---- the sentences

abbrev pub SaysOf : Status → (List (List ℕ) → Notes → Notes → List Event → Type 0) → Type 0
SaysOf wanted Says = (words : List (List ℕ)) (status : Status) (notes notes' : Notes) (before after : Outside) (runs : Runs words status notes notes' before after) → status ≡ wanted → Says words notes notes' runs.2.events

abbrev pub DoneIsSo : Type 0
DoneIsSo = SaysOf Done IsDone

abbrev pub SomeAreRefused : Type 0
SomeAreRefused = SaysOf SomeRefused HasRefused

abbrev pub SheetsAreRefused : Type 0
SheetsAreRefused = SaysOf SheetRefused IsSheetRefused

abbrev pub LimitsArePassed : Type 0
LimitsArePassed = SaysOf TooLong PassesItsLimit

abbrev pub ReadsFail : Type 0
ReadsFail = SaysOf ReadFault FailsToTake

abbrev pub WritesFail : Type 0
WritesFail = SaysOf WriteFault FailsToTell
