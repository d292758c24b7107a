-- What a check of a certificate says by its status: what the shelf was asked for, what was taken from the input, what was to be printed,
-- and how much of it was.
use Rattle.std.specs.Prelude.{◌≡◌, ◌≢◌, ℕ, ◌≤◌, ◌⊎◌, List, [], length}
use Rattle.std.specs.declared.option.Option.{Option}
use Rattle.std.specs.declared.option.Option.TheVariants.{Some}
use Rattle.std.specs.Io.KnownBytes.{Consumes}
use Rattle.pc_port.specs.Port.{Rose}
use Rattle.pc_port.specs.Shelf.{Files, file_named}
use Rattle.pc_sheet.specs.Sheet.{Sheet}
use Rattle.pc_sortcheck.specs.Declaring.{ReadsAs}
use Rattle.pc_load.specs.Outcome.{HasFault}
use Rattle.pc_cert.specs.declared.TheConstants.{CERT_LIMIT}
use Rattle.pc_lines.specs.declared.TheConstants.{SHEET_LIMIT}
use Rattle.pc_refusals.specs.declared.refusal.SheetRefusal.{SheetRefusal}
use Rattle.pc_refusals.specs.declared.status.Status.{Status}
use Rattle.pc_refusals.specs.declared.status.Status.TheVariants.{SheetRefused, ReadFault, WriteFault, Memory, TooLong}
use Rattle.pc_refusals.specs.Refusals.{sheet_refusal_text}
use Rattle.pc_refusals.specs.Endings.{Printing, printed, too_long_text, memory_text, IsPrinted}
use Rattle.pc_lines.specs.Files.{AsksOnce, TakesFile}
use Rattle.pc_refusals.specs.Files.{LacksFile, LacksMemoryForFile, HasLongFile}
use Rattle.pc_refusals.specs.Inputs.{TakesAll, TakesSome, InputPassesLimit}
use Rattle.pc_refusals.specs.Events.{Outside}
use Rattle.pc_judge.specs.declared.told.Told.{Told}
use Rattle.pc_judge.specs.Judged.{IsJudged, judged_text, status_of_told}
use Rattle.pc_words.specs.Words.{checks, FitsWords}
use Rattle.pc_spreadsheet.specs.Allowed.{Notes}
use Rattle.pc_replay.specs.Course.{Runs}

-- the file was taken, and its text reads as this sheet
pub record ReadsFile (file : List ℕ) (sheet : Sheet) (a b : Outside) : Type 0 where
  pub text : List ℕ
  pub takes : TakesFile a.kept file a.asked b.asked text
  pub small : length text ≤ SHEET_LIMIT
  pub reads : ReadsAs text sheet

-- It came to its end in this status, and this was to be printed. At the file, the input is left as it was: the shelf's one read failed,
-- and of the devices the shelf alone was at fault; memory was wanting; the file is too long; or its text is refused. At the certificate of
-- its sheet: a read failed, and the input alone was at fault; memory was wanting; the input is too long; or all of it is the certificate,
-- and is judged so.
pub data Checks (file : List ℕ) (text : Printing) (a b : Outside) : Status → Type 0 where
  lacks_file : LacksFile file text a.asked b.asked a.input b.input → Rose a.shelf_faults b.shelf_faults → b.input_faults ≡ a.input_faults → Checks file text a b ReadFault
  lacks_memory_for_file : LacksMemoryForFile file text a.asked b.asked a.input b.input → Checks file text a b Memory
  has_long_file : HasLongFile a.kept file text a.asked b.asked a.input b.input → Checks file text a b TooLong
  refuses_file : (sheet : List ℕ) (why : SheetRefusal) → TakesFile a.kept file a.asked b.asked sheet → length sheet ≤ SHEET_LIMIT → HasFault sheet why → ((read : Sheet) → ¬ ReadsAs sheet read) → b.input ≡ a.input
      → text ≡ printed [] (sheet_refusal_text why) → Checks file text a b SheetRefused
  fails_in_certificate : (sheet : Sheet) → ReadsFile file sheet a b → TakesSome CERT_LIMIT a.input b.input → Rose a.input_faults b.input_faults → b.shelf_faults ≡ a.shelf_faults → text ≡ printed [] [] → Checks file text a b ReadFault
  lacks_memory_for_check : (sheet : Sheet) → ReadsFile file sheet a b → TakesSome CERT_LIMIT a.input b.input → text ≡ printed [] memory_text → Checks file text a b Memory
  has_long_certificate : (sheet : Sheet) → ReadsFile file sheet a b → InputPassesLimit CERT_LIMIT a.input b.input → text ≡ printed [] too_long_text → Checks file text a b TooLong
  judges : (sheet : Sheet) (certificate : List ℕ) (rest : Option (List ℕ)) (what : Told) → ReadsFile file sheet a b → TakesAll CERT_LIMIT certificate a.input rest → Consumes rest b.input [] → IsJudged sheet certificate what
      → text ≡ printed [] (judged_text sheet what) → Checks file text a b (status_of_told what)

-- it came to its end in another status than that of a failed read, but a write failed
pub record IsCutShort (file : List ℕ) (text : Printing) (a b : Outside) : Type 0 where
  pub status : Status
  pub read : status ≢ ReadFault
  pub checks : Checks file text a b status

-- how it went, how much of it was printed, and that the shelf was asked for the file at most once
pub record Checked (file : List ℕ) (status : Status) (a b : Outside) : Type 0 where
  pub text : Printing
  pub course : Checks file text a b status ⊎ ((status ≡ WriteFault) × IsCutShort file text a b)
  pub written : IsPrinted status a.output b.output text
  pub asks : AsksOnce file a.asked b.asked

-- ---- how it ends where all is told

-- The words ask to check this file. The shelf tells that it has this text, which reads as a sheet, and the input that it has this certificate
-- left, of which that is told in the sheet; and neither passes its limit.
pub record IsCheckOf (words : List (List ℕ)) (file text certificate : List ℕ) (what : Told) (before : Outside) : Type 0 where
  pub budget : ℕ
  pub fits : FitsWords words record { mode = checks file; budget = budget }
  pub files : Files
  pub kept : before.kept ≡ Some files
  pub named : file_named file files ≡ Some text
  pub small : length text ≤ SHEET_LIMIT
  pub sheet : Sheet
  pub reads : ReadsAs text sheet
  pub left : before.input ≡ Some certificate
  pub few : length certificate ≤ CERT_LIMIT
  pub judged : IsJudged sheet certificate what

-- such a run ends as the certificate is judged, but where a device fails or memory is wanting
abbrev pub ChecksEndAsJudged : Type 0
ChecksEndAsJudged =
    (words : List (List ℕ)) (file text certificate : List ℕ) (what : Told) (status : Status) (notes notes' : Notes) (before after : Outside) → IsCheckOf words file text certificate what before → Runs words status notes notes' before after
    → status ≢ ReadFault → status ≢ WriteFault → status ≢ Memory → status ≡ status_of_told what
