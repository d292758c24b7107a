-- Laws over the judgement: it leaves no choice, and keeps sheets well formed. And that a sheet has one summary.
use Rattle.std.specs.Prelude.{◌≡◌, ℕ, List}
use Rattle.pc_sheet.specs.Sheet.{Sheet}
use Rattle.pc_sheet.specs.WellFormed.{IsWellFormed}
use Rattle.pc_transcript.specs.Answer.{Answer}
use Rattle.pc_spreadsheet.specs.Judgement.{Verdict, IsVerdictOn, SheetVerdict, IsSheetVerdict}
use Rattle.pc_spreadsheet.specs.Tasks.{State, Starts}
use Rattle.pc_spreadsheet.specs.Allowed.{Notes, Allows}
use Rattle.pc_spreadsheet.specs.Summary.{IsSummary}
use Rattle.pc_spreadsheet.specs.declared.summary.Summary.{Summary}

-- in a well-formed state a command line has one verdict at most
abbrev pub LinesHaveOneVerdict : Type 0
LinesHaveOneVerdict = (state : State) → IsWellFormed state.sheet → (line : List ℕ) (x y : Verdict) → IsVerdictOn state line x → IsVerdictOn state line y → x ≡ y

-- a sheet's text has one verdict at most
abbrev pub TextsHaveOneVerdict : Type 0
TextsHaveOneVerdict = (budget : ℕ) (text : List ℕ) (x y : SheetVerdict) → IsSheetVerdict budget text x → IsSheetVerdict budget text y → x ≡ y

-- a run starts in a well-formed state
abbrev pub StartsAreWellFormed : Type 0
StartsAreWellFormed = (budget : ℕ) (text : List ℕ) (state : State) → Starts budget text state → IsWellFormed state.sheet

-- and no answer that a line may have leaves the well-formed ones
abbrev pub AnswersKeepForm : Type 0
AnswersKeepForm = (old new : State × Notes) (line : List ℕ) (answer : Answer) → IsWellFormed old.0.sheet → Allows old line answer new → IsWellFormed new.0.sheet

-- a sheet has one summary at most
abbrev pub SheetsHaveOneSummary : Type 0
SheetsHaveOneSummary = (sheet : Sheet) (x y : Summary) → IsSummary sheet x → IsSummary sheet y → x ≡ y
