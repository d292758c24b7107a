-- What a run of PrediCalc is worth, in the words of sheets alone. Whoever wants to believe the program reads this page and what it cites:
-- what a text says, what a sheet's rules and entries entail, what the display is. Nothing here says how anything is found. The page is read
-- from its end: `KeepsItsWord` is what is proved of `run`. It speaks of `replay`, `edit` and `check`; `Journals` and `Demonstrations` are the pages of
-- the other modes. Laws beside it are named where they come in.
use Rattle.std.specs.Prelude.{◌≡◌, ◌⊎◌, ℕ, ◌<◌, List, [], ◌++◌, codes, Some}
use Rattle.std.specs.List.{AllZip}
use Rattle.pc_port.specs.Shelf.{Files, file_named}
use Rattle.pc_lines.specs.Lines.{lines_of}
use Rattle.pc_sheet.specs.Sheet.{Sheet, Statement, NamedStatement, with_rule}
use Rattle.pc_sheet.specs.Entailment.{Fits, IsSupport, IsImplied, IsLeastSupport}
use Rattle.pc_sheet.specs.MaximalSets.{ListsExactly, IsMaximalSet, AreRulesConsistent}
use Rattle.pc_sheet.specs.declared.ids.Entry.{Entry}
use Rattle.pc_sheet.specs.declared.ids.Target.{Target}
use Rattle.pc_syntax.specs.Command.{TakesNoMemory}
use Rattle.pc_enough_laws.specs.Enough.{enough_for_all}
use Rattle.pc_accept.specs.Accepts.{Claim, implied, inconsistent, repairs, unimplied, against, AreShown}
use Rattle.pc_accept.specs.Laws.{IsInOrder, AreAgainst}
use Rattle.pc_accept.specs.Asked.{asked}
use Rattle.pc_writer.specs.SheetText.{ended}
use Rattle.pc_display.specs.Show.{IsShown}
use Rattle.pc_display.specs.Grid.{IsGrid}
use Rattle.pc_display.specs.Json.{IsJsonLine}
use Rattle.pc_sortcheck.specs.Declaring.{ReadsAs}
use Rattle.pc_load.specs.Outcome.{HasFault}
use Rattle.pc_refusals.specs.Refusals.{sheet_refusal_text}
use Rattle.pc_refusals.specs.Endings.{memory_text, sheet_memory_text}
use Rattle.pc_refusals.specs.declared.refusal.Counts.{Counts}
use Rattle.pc_refusals.specs.declared.refusal.SheetRefusal.{SheetRefusal}
use Rattle.pc_refusals.specs.declared.refusal.Refusal.{Refusal}
use Rattle.pc_refusals.specs.declared.refusal.Refusal.TheVariants.{TooLarge, Inconsistent, Spent}
use Rattle.pc_refusals.specs.declared.status.Status.{Status}
use Rattle.pc_refusals.specs.declared.status.Status.TheVariants.{Done, SheetRefused, Usage, ReadFault, WriteFault, Memory, TooLong, CertRefused}
use Rattle.pc_refusals.specs.Events.{Outside}
use Rattle.pc_transcript.specs.SheetPart.{IsSheetPart}
use Rattle.pc_transcript.specs.Answer.{Answer, silent, accepted, shown, refused, no_memory}
use Rattle.pc_transcript.specs.Transcript.{Transcript, Legal, lines, output_of, status_of}
use Rattle.pc_words.specs.Words.{Mode, replays, edits, checks, merges, posts, demonstrates, Request, FitsWords, FitNothing}
use Rattle.pc_spreadsheet.specs.Judgement.{IsTooLarge, IsContradictory, of_whole}
use Rattle.pc_spreadsheet.specs.Refused.{IsContradiction, IsRefused}
use Rattle.pc_spreadsheet.specs.Tasks.{State, IsLight, Starts, Task, shows, PageKind, lines_page, grid_page, json_page, text_page, why_page, repairs_page, proof_page, whynot_page, ask_page, AsksNothing, IsTask, IsEdit, state_after}
use Rattle.pc_afresh_laws.specs.Again.{StartsAgain}
use Rattle.pc_judge.specs.AcceptedText.{IsAcceptedText}
use Rattle.pc_replay.specs.Course.{usage_text}
use Rattle.pc_theorem.specs.Certificates.{Claims, Assigns}
use Rattle.pc_theorem.specs.Budgets.{HasTooLittle}
use Rattle.pc_theorem.specs.Sets.{IsTheListing, ProvesBySets, Doubts}
use Rattle.pc_theorem.specs.Formulas.{AnswersFormula}

-- A run whose devices tell their bytes: its words, what the shelf's files and the input had, what was printed, and how it ended.
pub record KnownRun : Type 0 where
  pub words : List (List ℕ)
  pub files : Files
  pub input : List ℕ
  pub printed : List ℕ
  pub status : Status

-- the text begins so
abbrev pub BeginsWith : List ℕ → List ℕ → Type 0
BeginsWith front text = (more : List ℕ) × (text ≡ front ++ more)

-- ---- certificates

-- the sets, each in the order of the sheet's entries, are the maximal consistent sets of its entries, each once
pub record AreTheMaximalSets (sheet : Sheet) (sets : List (List Entry)) : Type 0 where
  pub ordered : List (List Entry)
  pub order : AllZip (IsInOrder sheet.entries) sets ordered
  pub exact : ListsExactly (List Entry) (IsMaximalSet sheet) ordered

-- What is claimed by used entries and sets is so. The used entries are entries of the sheet, consistent with the rules, and entail the target; no
-- assignment makes every rule true; the sets are the maximal ones, and then the target isn't implied; or the used entries, with the
-- other rules, are against the rule.
abbrev pub IsSo : Sheet → Claim → List Entry → List (List Entry) → Type 0
IsSo sheet (implied t) uses sets = (s : List Entry) × IsInOrder sheet.entries uses s × IsSupport sheet s t
IsSo sheet inconsistent uses sets = ¬ AreRulesConsistent sheet
IsSo sheet repairs uses sets = AreTheMaximalSets sheet sets
IsSo sheet (unimplied t) uses sets = AreTheMaximalSets sheet sets × (¬ IsImplied sheet t)
IsSo sheet (against r) uses sets = (s : List Entry) × IsInOrder sheet.entries uses s × AreAgainst sheet r s

-- the text claims one thing, by the entries that it uses and the sets that it gives, and that is so
pub record IsProved (sheet : Sheet) (text : List ℕ) : Type 0 where
  pub claim : Claim
  pub uses : List Entry
  pub sets : List (List Entry)
  pub claims : Claims sheet text claim uses sets
  pub worth : IsSo sheet claim uses sets

-- CHECKED. The file is a sheet and no other; the input is a certificate that is accepted for it, and what it claims is so.
pub record IsChecked (files : Files) (file input printed : List ℕ) : Type 0 where
  pub bytes : List ℕ
  pub found : file_named file files ≡ Some bytes
  pub sheet : Sheet
  pub reads : ReadsAs bytes sheet
  pub only : (other : Sheet) → ReadsAs bytes other → other ≡ sheet
  pub accepted : IsAcceptedText sheet input
  pub proved : IsProved sheet input
  pub told : printed ≡ ended (codes "accepted")

-- the file is a sheet and no other, the input is no certificate that is accepted for it, and that is told
pub record IsDeclined (files : Files) (file input printed : List ℕ) : Type 0 where
  pub bytes : List ℕ
  pub found : file_named file files ≡ Some bytes
  pub sheet : Sheet
  pub reads : ReadsAs bytes sheet
  pub only : (other : Sheet) → ReadsAs bytes other → other ≡ sheet
  pub refused : ¬ IsAcceptedText sheet input
  pub told : BeginsWith (codes "refused ") printed

-- the file is no sheet, and the first fault of its text is told
pub record IsNoSheet (files : Files) (file printed : List ℕ) : Type 0 where
  pub bytes : List ℕ
  pub found : file_named file files ≡ Some bytes
  pub none : (sheet : Sheet) → ¬ ReadsAs bytes sheet
  pub why : SheetRefusal
  pub fault : HasFault bytes why
  pub told : printed ≡ sheet_refusal_text why

-- with `check FILE`
pub data EndsCheck (run : KnownRun) (file : List ℕ) : Type 0 where
  accepts : run.status ≡ Done → IsChecked run.files file run.input run.printed → EndsCheck run file
  declines : run.status ≡ CertRefused → IsDeclined run.files file run.input run.printed → EndsCheck run file
  finds_no_sheet : run.status ≡ SheetRefused → IsNoSheet run.files file run.printed → EndsCheck run file

-- ---- pages

-- the text is the sheet's text of that kind, which has no other
pub record IsTheText (Says : Sheet → List ℕ → Type 0) (sheet : Sheet) (text : List ℕ) : Type 0 where
  pub is : Says sheet text
  pub only : (other : List ℕ) → Says sheet other → other ≡ text

-- a certificate that claims the target by these entries, gives an assignment that has them and makes every rule true, so that they are
-- consistent, and is accepted by `check` for this sheet
pub record CertifiesTarget (sheet : Sheet) (t : Target) (uses : List Entry) (text : List ℕ) : Type 0 where
  pub claims : Claims sheet text (implied t) uses []
  pub values : List Entry
  pub assigns : Assigns sheet text values
  pub shown : AreShown sheet (Fits sheet) uses values
  pub accepted : IsAcceptedText sheet text

-- EXPLAINED. `not implied`, where no consistent entries entail the target; or a certificate of it by its least support.
pub data Explains (sheet : Sheet) (t : Target) (text : List ℕ) : Type 0 where
  not_implied : ¬ IsImplied sheet t → text ≡ ended (codes "not implied") → Explains sheet t text
  by_support : (uses : List Entry) → IsLeastSupport sheet uses t → CertifiesTarget sheet t uses text → Explains sheet t text

-- SHOWN: for `show` the display of the sheet, each cell with the values that some consistent entries entail and with the least such entries,
-- and with what each of its own entries clashes with; `grid` and `json` give it in other forms. PROVED: for `prove repairs` and `whynot` a
-- certificate by the maximal sets, or `implied` for a `whynot` of what is. AFRESH: for `dump` a text from which a run can start, whatever
-- its budget, with this sheet and with no other. (Such a run shows what this one showed: `saved_sheets_show_the_same`; and `check` takes for
-- the text what it takes for the sheet: `saved_sheets_take_certificates`.)
abbrev pub TellsPage : Sheet → PageKind → List ℕ → Type 0
TellsPage sheet lines_page text = IsTheText IsShown sheet text
TellsPage sheet grid_page text = IsTheText IsGrid sheet text
TellsPage sheet json_page text = IsTheText IsJsonLine sheet text
TellsPage sheet text_page text = StartsAgain text sheet
TellsPage sheet (why_page t) text = Explains sheet t text
TellsPage sheet repairs_page text = IsTheText IsTheListing sheet text
TellsPage sheet proof_page text = ProvesBySets sheet repairs text
TellsPage sheet (whynot_page t) text = Doubts sheet t text
TellsPage sheet (ask_page made) text = (f : Statement) × (made ≡ asked sheet f) × AnswersFormula sheet f text

-- ---- answers

-- a certificate that no assignment makes every rule of the sheet true, which `check` accepts for it
pub record IsRefutation (sheet : Sheet) (text : List ℕ) : Type 0 where
  pub claims : Claims sheet text inconsistent [] []
  pub accepted : IsAcceptedText sheet text

-- What may answer a line in a state, and the state after it. Nothing is told where nothing is asked; `ok` of an edit that is done; and a page,
-- which tells what the line asks of the sheet. REFUSED: what asks for nothing that can be done is refused with its cause; a rule that leaves
-- no assignment with a certificate of that; what has too little budget with the literals that its search placed, which are all that the
-- budget allows; and what may want memory for want of it. Then sheet and budget are as they were. (A line has one verdict:
-- `lines_have_one_verdict`; an answer leaves one state: `answers_leave_one_state`; and no search spends a budget that is enough:
-- `enough_is_never_spent`.)
pub data Answers (state : State) (line : List ℕ) : Answer → State → Type 0 where
  nothing_asked : AsksNothing line → Answers state line silent state
  edit_done : (edit : Task) → IsTask state line edit → IsEdit edit → Answers state line accepted (state_after state edit)
  page_shown : (kind : PageKind) (text : List ℕ) → IsTask state line (shows kind) → TellsPage state.sheet kind text → Answers state line (shown text) state
  not_doable : (why : Refusal) → IsRefused state line why → Answers state line (refused why []) state
  contradicting : (r : NamedStatement) (certificate : List ℕ) → IsContradiction state line r → IsRefutation (with_rule state.sheet r) certificate → Answers state line (refused Inconsistent certificate) state
  budget_spent : (counts : Counts) → HasTooLittle state line → counts.placed ≡ state.budget → Answers state line (refused (Spent counts) []) state
  memory_lacking : ¬ TakesNoMemory line → Answers state line no_memory state

-- ---- sessions

-- Why a text starts no session, and what is told behind that cause: for the first fault of the text nothing; for a sheet that is too large
-- nothing; for one whose rules leave no assignment a certificate of that; for a budget that is less than is enough for it, all of which was
-- placed, nothing. (A text has one verdict: `texts_have_one_verdict`.)
pub data RefusesSheet (budget : ℕ) (text : List ℕ) : SheetRefusal → List ℕ → Type 0 where
  for_fault : (why : SheetRefusal) → HasFault text why → RefusesSheet budget text why []
  for_weight : IsTooLarge text → RefusesSheet budget text (of_whole TooLarge) []
  for_rules : (sheet : Sheet) (certificate : List ℕ) → IsContradictory text sheet → IsRefutation sheet certificate → RefusesSheet budget text (of_whole Inconsistent) certificate
  for_budget : (sheet : Sheet) (counts : Counts) → ReadsAs text sheet → IsLight sheet → budget < enough_for_all sheet → counts.placed ≡ budget → RefusesSheet budget text (of_whole (Spent counts)) []

-- With `replay` the sheet's text is the front of the input, up to its line `begin`, and the command lines are those behind it. With `edit FILE` they
-- are the file and the lines of the input. (An input has one such front: `inputs_have_one_sheet_part`.)
abbrev pub IsSheetText : KnownRun → Mode → List ℕ → Type 0
IsSheetText run replays text = (rest : List ℕ) × (run.input ≡ text ++ rest) × IsSheetPart text (Some rest)
IsSheetText run (edits file) text = file_named file run.files ≡ Some text
IsSheetText run mode text = ⊥

-- the command lines, as said above
abbrev pub AreCommands : KnownRun → Mode → List ℕ → List (List ℕ) → Type 0
AreCommands run replays text commands = (rest : List ℕ) × (run.input ≡ text ++ rest) × (commands ≡ lines_of rest)
AreCommands run (edits file) text commands = commands ≡ lines_of run.input
AreCommands run mode text commands = ⊥

-- the command lines were answered one by one, from the sheet on, and that was printed; the status tells whether some was refused, and whether some
-- wanted memory
pub record IsSession (run : KnownRun) (budget : ℕ) (text : List ℕ) (commands : List (List ℕ)) : Type 0 where
  pub start : State
  pub starts : Starts budget text start
  pub transcript : Transcript
  pub end : State
  pub legal : Legal Answers start transcript end
  pub lines_are : lines transcript ≡ commands
  pub printed_are : run.printed ≡ output_of transcript
  pub status_is : run.status ≡ status_of transcript

-- with `replay` and `edit FILE`: all lines were answered, or the sheet was refused
pub data EndsSession (run : KnownRun) (budget : ℕ) (mode : Mode) : Type 0 where
  answers_all : (text : List ℕ) (commands : List (List ℕ)) → IsSheetText run mode text → AreCommands run mode text commands → IsSession run budget text commands → EndsSession run budget mode
  refuses : (text : List ℕ) (why : SheetRefusal) (more : List ℕ) → run.status ≡ SheetRefused → IsSheetText run mode text → RefusesSheet budget text why more → run.printed ≡ sheet_refusal_text why ++ more → EndsSession run budget mode

-- ---- the theorem

-- what was asked for ends so; the other modes have pages of their own (words ask for one thing: `words_fit_one_request`)
abbrev pub Ends : KnownRun → ℕ → Mode → Type 0
Ends run budget (checks file) = EndsCheck run file
Ends run budget (merges file) = Unit {0}
Ends run budget (posts file) = Unit {0}
Ends run budget (demonstrates blocks) = Unit {0}
Ends run budget mode = EndsSession run budget mode

-- memory was wanting before there was a line to answer, and that is all that was printed
abbrev pub LacksMemory : KnownRun → Type 0
LacksMemory run = (run.status ≡ Memory) × ((run.printed ≡ memory_text) ⊎ (run.printed ≡ sheet_memory_text))

-- the run ended as its words ask, or lacked memory; where they ask for nothing, it told the usage
pub record EndsAsAsked (run : KnownRun) : Type 0 where
  pub asked_for : (request : Request) → FitsWords run.words request → Ends run request.budget request.mode ⊎ LacksMemory run
  pub unfit : FitNothing run.words → (run.status ≡ Usage) × (run.printed ≡ usage_text)

-- the devices tell their bytes, and this is the run
pub record IsTold (words : List (List ℕ)) (status : Status) (before after : Outside) (run : KnownRun) : Type 0 where
  pub words_are : run.words ≡ words
  pub status_is : run.status ≡ status
  pub files_are : before.kept ≡ Some run.files
  pub input_is : before.input ≡ Some run.input
  pub earlier : List ℕ
  pub given_before : before.output ≡ Some earlier
  pub given_after : after.output ≡ Some (earlier ++ run.printed)

-- A read failed: the complete lines that were taken before were answered, and nothing else was printed (`failed_reads_are_told`). A write failed: a
-- front of what was to be printed was, and then nothing (`failed_writes_are_told`). Something is longer than it may be: the lines before it
-- were answered, and that it is was printed last (`limits_are_passed`).
abbrev pub IsCutOff : Status → Type 0
IsCutOff ReadFault = Unit {0}
IsCutOff WriteFault = Unit {0}
IsCutOff TooLong = Unit {0}
IsCutOff status = ⊥

-- of its words, of its status, and of what was outside before it and after it
abbrev pub KeepsItsWord : List (List ℕ) → Status → Outside → Outside → Type 0
KeepsItsWord words status before after = (run : KnownRun) → IsTold words status before after run → ¬ IsCutOff run.status → EndsAsAsked run
