-- That the sheet of a run, dumped and loaded afresh, is the same sheet with the same display.
use Rattle.std.specs.Prelude.{◌≡◌, ◌↔◌, ℕ, List}
use Rattle.pc_sheet.specs.Sheet.{Sheet}
use Rattle.pc_sheet.specs.MaximalSets.{AreRulesConsistent}
use Rattle.pc_sheet.specs.WellFormed.{IsWellFormed}
use Rattle.pc_transcript.specs.Answer.{Answer}
use Rattle.pc_transcript.specs.Transcript.{Transcript, Legal}
use Rattle.pc_spreadsheet.specs.Tasks.{State, IsLight, Starts, PageKind, lines_page, grid_page, json_page, text_page, repairs_page}
use Rattle.pc_spreadsheet.specs.Allowed.{Notes, Allows}
use Rattle.pc_spreadsheet.specs.Pages.{PageSays}
use Rattle.pc_afresh_laws.specs.Again.{StartsAgain}

-- ---- the sheets of a run

-- a sheet from which a run can start
pub record IsOpen (sheet : Sheet) : Type 0 where
  pub formed : IsWellFormed sheet
  pub light : IsLight sheet
  pub consistent : AreRulesConsistent sheet

-- a run starts from such a sheet
abbrev pub StartsAreOpen : Type 0
StartsAreOpen = (budget : ℕ) (text : List ℕ) (state : State) → Starts budget text state → IsOpen state.sheet

-- no answer that a line may have leaves them
abbrev pub AnswersKeepOpen : Type 0
AnswersKeepOpen = (old new : State × Notes) (line : List ℕ) (answer : Answer) → IsOpen old.0.sheet → Allows old line answer new → IsOpen new.0.sheet

-- and so no list of lines with their answers does
abbrev pub TranscriptsKeepOpen : Type 0
TranscriptsKeepOpen = (old new : State × Notes) (transcript : Transcript) → IsOpen old.0.sheet → Legal Allows old transcript new → IsOpen new.0.sheet

-- ---- loaded afresh

-- what such a sheet is dumped as starts a run again
abbrev pub DumpsStartAgain : Type 0
DumpsStartAgain = (sheet : Sheet) (dumped : List ℕ) → IsOpen sheet → PageSays text_page sheet dumped → StartsAgain dumped sheet

-- the forms of the display
abbrev pub IsDisplay : PageKind → Type 0
IsDisplay lines_page = Unit {0}
IsDisplay grid_page = Unit {0}
IsDisplay json_page = Unit {0}
IsDisplay kind = ⊥

-- the sheet's page of this kind is this text and no other
abbrev pub SaysOnly : PageKind → Sheet → List ℕ → Type 0
SaysOnly kind sheet text = (other : List ℕ) → PageSays kind sheet other ↔ (other ≡ text)

-- both sheets have one display of each form, and it is the same
abbrev pub DisplayTheSame : Sheet → Sheet → Type 0
DisplayTheSame sheet other = (kind : PageKind) → IsDisplay kind → (text : List ℕ) × SaysOnly kind sheet text × SaysOnly kind other text

-- such a sheet has the display of that which its dump is loaded as
abbrev pub LoadedAfreshShowsTheSame : Type 0
LoadedAfreshShowsTheSame =
    (budget : ℕ) (sheet : Sheet) (dumped : List ℕ) (state : State) → IsOpen sheet → PageSays text_page sheet dumped → Starts budget dumped state → DisplayTheSame sheet state.sheet

-- a sheet has one listing of what can be kept together, at most
abbrev pub ListingsAreOne : Type 0
ListingsAreOne = (sheet : Sheet) (x y : List ℕ) → PageSays repairs_page sheet x → PageSays repairs_page sheet y → y ≡ x

-- ---- of whole runs

-- a run starts from the text with this sheet alone, and whatever state it starts from, the display is the same as this sheet's
pub record LoadsTheSame (text : List ℕ) (sheet : Sheet) : Type 0 where
  pub again : StartsAgain text sheet
  pub display : (budget : ℕ) (state : State) → Starts budget text state → DisplayTheSame sheet state.sheet

-- After any lines with their answers, from a state from which a run starts, what the sheet is dumped as loads the same.
abbrev pub RunsLoadAfresh : Type 0
RunsLoadAfresh =
    (budget : ℕ) (text dumped : List ℕ) (start : State) (notes : Notes) (transcript : Transcript) (reached : State × Notes)
    → Starts budget text start → Legal Allows (start, notes) transcript reached → PageSays text_page reached.0.sheet dumped → LoadsTheSame dumped reached.0.sheet
