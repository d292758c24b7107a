-- That runs are worth what the pages say; that a saved sheet shows the same; that answers leave one state; and which demonstrations are done.
use Rattle.std.specs.Prelude.{◌≡◌, ◌≢◌, ◌≤◌, ◌⊎◌, ℕ, List, Some}
use Rattle.pc_port.specs.Shelf.{file_named}
use Rattle.pc_sheet.specs.Sheet.{Sheet}
use Rattle.pc_sheet.specs.WellFormed.{IsWellFormed}
use Rattle.pc_enough_laws.specs.Enough.{enough_for_all}
use Rattle.pc_gen.specs.Sheet.{generated_sheet}
use Rattle.pc_refusals.specs.declared.status.Status.{Status}
use Rattle.pc_refusals.specs.declared.status.Status.TheVariants.{CertRefused}
use Rattle.pc_refusals.specs.Events.{Outside}
use Rattle.pc_transcript.specs.Answer.{Answer}
use Rattle.pc_transcript.specs.Transcript.{Transcript, Legal}
use Rattle.pc_words.specs.Words.{demonstrates, FitsWords}
use Rattle.pc_judge.specs.AcceptedText.{IsAcceptedText}
use Rattle.pc_spreadsheet.specs.Allowed.{Notes}
use Rattle.pc_spreadsheet.specs.Tasks.{State, Starts, PageKind, text_page}
use Rattle.pc_afresh_laws.specs.Afresh.{IsDisplay}
use Rattle.pc_replay.specs.Course.{Runs}
use Rattle.pc_theorem.specs.Theorem.{KnownRun, EndsCheck, TellsPage, Answers, LacksMemory, IsTold, IsCutOff}
use Rattle.pc_theorem.specs.Demonstrations.{IsDemonstration, Demonstrates}
use Rattle.pc_theorem.specs.Run.{IsWorth}

-- ---- all modes

abbrev pub RunsKeepTheirWord : Type 0
RunsKeepTheirWord = (words : List (List ℕ)) (status : Status) (notes noted : Notes) (before after : Outside) → Runs words status notes noted before after → IsWorth words status before after

-- ---- a saved sheet

-- What was told for `dump`, a later session may begin with. There `show`, `grid` and `json` are answered, before any edit, as they would have been
-- in place of the `dump`.
abbrev pub SavedSheetsShowTheSame : Type 0
SavedSheetsShowTheSame =
    (sheet : Sheet) (kind : PageKind) (saved shown later : List ℕ) (budget : ℕ) (start : State) → IsDisplay kind → TellsPage sheet text_page saved → TellsPage sheet kind shown → Starts budget saved start → TellsPage start.sheet kind later → later ≡ shown

-- What `check` accepts for a sheet, as the certificates that a session prints, isn't refused for a file that has what was told for `dump`.
abbrev pub SavedSheetsTakeCertificates : Type 0
SavedSheetsTakeCertificates =
    (sheet : Sheet) (saved certificate : List ℕ) → TellsPage sheet text_page saved → IsAcceptedText sheet certificate → (run : KnownRun) (file : List ℕ) → file_named file run.files ≡ Some saved → run.input ≡ certificate → EndsCheck run file → run.status ≢ CertRefused

-- ---- one state

-- an answer to a line leaves one state, and so do answers to many lines
abbrev pub AnswersLeaveOneState : Type 0
AnswersLeaveOneState = (state next other : State) (line : List ℕ) (answer : Answer) → IsWellFormed state.sheet → Answers state line answer next → Answers state line answer other → other ≡ next

abbrev pub TranscriptsLeaveOneState : Type 0
TranscriptsLeaveOneState = (start end other : State) (transcript : Transcript) → IsWellFormed start.sheet → Legal Answers start transcript end → Legal Answers start transcript other → other ≡ end

-- ---- enough

-- a demonstration that isn't cut off, with a budget that is enough for its sheet, is done, or memory was wanting before it
abbrev pub DemonstrationsOfEnoughAreDone : Type 0
DemonstrationsOfEnoughAreDone =
    (words : List (List ℕ)) (status : Status) (before after : Outside) → Demonstrates words status before after → (run : KnownRun) → IsTold words status before after run → ¬ IsCutOff run.status
    → (blocks budget : ℕ) → FitsWords run.words (record { mode = demonstrates blocks; budget = budget }) → enough_for_all (generated_sheet blocks) ≤ budget → IsDemonstration run budget blocks ⊎ LacksMemory run
