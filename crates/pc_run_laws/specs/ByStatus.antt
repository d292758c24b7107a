-- What a run's status says of its words, of what happened, and of what was noted.
use Rattle.std.specs.Prelude.{◌≡◌, ℕ, ◌≤◌, ◌⊎◌, List, [], ◌∷◌, ◌++◌, length}
use Rattle.std.specs.Io.KnownBytes.{Consumes, Appends}
use Rattle.pc_sheet.specs.Sheet.{Sheet}
use Rattle.pc_sortcheck.specs.Declaring.{ReadsAs}
use Rattle.pc_cert.specs.declared.TheConstants.{CERT_LIMIT}
use Rattle.pc_words.specs.Words.{Mode, checks, merges, posts, Request, FitsWords, FitNothing}
use Rattle.pc_lines.specs.declared.TheConstants.{SHEET_LIMIT}
use Rattle.pc_refusals.specs.declared.status.Status.{Status}
use Rattle.pc_refusals.specs.declared.status.Status.TheVariants.{Usage, WriteFault, Memory, CertRefused}
use Rattle.pc_refusals.specs.Endings.{memory_text, sheet_memory_text}
use Rattle.pc_refusals.specs.Events.{Outside, Event, took_rest, gave, told, Happened}
use Rattle.pc_refusals.specs.Stages.{needs}
use Rattle.pc_judge.specs.declared.told.Told.{Told}
use Rattle.pc_judge.specs.Judged.{IsJudged, judged_text, status_of_told}
use Rattle.pc_judge.specs.Course.{Check}
use Rattle.pc_spreadsheet.specs.Allowed.{Notes}
use Rattle.pc_replay.specs.Course.{usage_text, CourseIn, Runs}
use Rattle.pc_run_laws.specs.Statuses.{HasWanting}

-- ---- words that don't fit

-- the words fit nothing; the output gained the usage line, all else outside is as it was, and nothing was noted
pub record IsUsage (words : List (List ℕ)) (notes notes' : Notes) (before after : Outside) : Type 0 where
  pub fit_nothing : FitNothing words
  pub told : Appends before.output after.output usage_text
  pub else_same : after ≡ record before { output = after.output }
  pub none_noted : notes' ≡ notes

abbrev pub UsageIsOfWords : Type 0
UsageIsOfWords = (words : List (List ℕ)) (status : Status) (notes notes' : Notes) (before after : Outside) → Runs words status notes notes' before after → status ≡ Usage → IsUsage words notes notes' before after

-- where the words fit nothing the run ends so, or by a failed write
abbrev pub WordsAreTold : Type 0
WordsAreTold = (words : List (List ℕ)) (status : Status) (notes notes' : Notes) (before after : Outside) → Runs words status notes notes' before after → FitNothing words → (status ≡ Usage) ⊎ (status ≡ WriteFault)

-- ---- certificates that are refused

-- The words ask to check a file. Its text reads as a sheet; all of the input, within the limit, is no certificate in this sheet or has a
-- verdict other than accepted; this is told, and no more of the input was taken. Nothing was noted.
pub record IsRefusedCertificate (words : List (List ℕ)) (notes notes' : Notes) (before after : Outside) : Type 0 where
  pub request : Request
  pub fits : FitsWords words request
  pub file : List ℕ
  pub is_check : request.mode ≡ checks file
  pub text : List ℕ
  pub sheet : Sheet
  pub small : length text ≤ SHEET_LIMIT
  pub reads : ReadsAs text sheet
  pub certificate : List ℕ
  pub few : length certificate ≤ CERT_LIMIT
  pub what : Told
  pub judged : IsJudged sheet certificate what
  pub refuses : status_of_told what ≡ CertRefused
  pub last : Outside
  pub happened : Happened (gave file text ∷ took_rest certificate ∷ told (judged_text sheet what) ∷ []) before last
  pub else_same : after ≡ record last { input = after.input }
  pub none_ahead : Consumes last.input after.input []
  pub none_noted : notes' ≡ notes

abbrev pub CertificatesAreRefused : Type 0
CertificatesAreRefused = (words : List (List ℕ)) (status : Status) (notes notes' : Notes) (before after : Outside) → Runs words status notes notes' before after → status ≡ CertRefused → IsRefusedCertificate words notes notes' before after

-- ---- memory that is wanting

-- the modes that take a journal
abbrev pub TakesJournal : Mode → Type 0
TakesJournal (merges file) = Unit {0}
TakesJournal (posts file) = Unit {0}
TakesJournal mode = ⊥

-- Memory was wanted to read words that fit, and nothing but this happened; or, in the mode that they ask for, at the sheet; or, in a check, at
-- the certificate; or, in a mode that takes one, at a journal or the merge; or at a line of those that were answered, which are all of the mode.
pub data WantsMemory (words : List (List ℕ)) (notes notes' : Notes) (events : List Event) : Type 0 where
  at_words : ¬ FitNothing words → events ≡ told memory_text ∷ [] → notes' ≡ notes → WantsMemory words notes notes' events
  at_sheet : (request : Request) (earlier : List Event) → FitsWords words request → CourseIn request.mode request.budget notes earlier (needs sheet_memory_text) notes' → events ≡ earlier ++ told sheet_memory_text ∷ [] → WantsMemory words notes notes' events
  at_certificate : (request : Request) (file : List ℕ) (earlier : List Event) → FitsWords words request → request.mode ≡ checks file → Check file earlier (needs memory_text) → events ≡ earlier ++ told memory_text ∷ [] → notes' ≡ notes → WantsMemory words notes notes' events
  at_journal : (request : Request) (earlier : List Event) → FitsWords words request → TakesJournal request.mode → CourseIn request.mode request.budget notes earlier (needs memory_text) notes' → events ≡ earlier ++ told memory_text ∷ [] → WantsMemory words notes notes' events
  at_line : HasWanting words notes notes' events → WantsMemory words notes notes' events

abbrev pub MemoryIsWanted : Type 0
MemoryIsWanted = (words : List (List ℕ)) (status : Status) (notes notes' : Notes) (before after : Outside) (runs : Runs words status notes notes' before after) → status ≡ Memory → WantsMemory words notes notes' runs.2.events
