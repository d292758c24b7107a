-- What texts and command lines are judged: why a text is no sheet that a run starts from, and the one verdict on each.
use Rattle.std.specs.Prelude.{◌≡◌, ℕ, ◌<◌, ◌⊎◌, List}
use Rattle.std.specs.declared.option.Option.TheVariants.{None}
use Rattle.pc_sheet.specs.Limits.{most_weight}
use Rattle.pc_sheet.specs.Sheet.{Sheet, NamedStatement}
use Rattle.pc_sheet.specs.MaximalSets.{AreRulesConsistent}
use Rattle.pc_sheet.specs.Weight.{weight}
use Rattle.pc_sortcheck.specs.Declaring.{ReadsAs}
use Rattle.pc_refusals.specs.declared.refusal.SheetRefusal.{SheetRefusal}
use Rattle.pc_refusals.specs.declared.refusal.Refusal.{Refusal}
use Rattle.pc_refusals.specs.declared.refusal.Refusal.TheVariants.{TooLarge, Inconsistent}
use Rattle.pc_load.specs.Outcome.{HasFault}
use Rattle.pc_spreadsheet.specs.Tasks.{State, IsLight, Starts, Task, AsksNothing, IsTask}
use Rattle.pc_spreadsheet.specs.Refused.{IsRefused, IsContradiction}

-- ---- sheets

-- the text is a sheet that is too large
pub record IsTooLarge (text : List ℕ) : Type 0 where
  pub sheet : Sheet
  pub reads : ReadsAs text sheet
  pub heavy : most_weight < weight sheet

-- the text is this sheet, which isn't too large, and no assignment makes every rule true
pub record IsContradictory (text : List ℕ) (sheet : Sheet) : Type 0 where
  pub reads : ReadsAs text sheet
  pub light : IsLight sheet
  pub contradict : ¬ AreRulesConsistent sheet

-- the refusal of a sheet as a whole, for no line
abbrev pub of_whole : Refusal → SheetRefusal
of_whole refusal = record { refusal = refusal; line = None }

-- the text is refused so: for its first fault, for its weight, or for its rules
abbrev pub IsRejected : List ℕ → SheetRefusal → Type 0
IsRejected text why = HasFault text why ⊎ (((why ≡ of_whole TooLarge) × IsTooLarge text) ⊎ ((why ≡ of_whole Inconsistent) × ((sheet : Sheet) × IsContradictory text sheet)))

-- what a sheet's text is judged
pub data SheetVerdict : Type 0 where
  opens : State → SheetVerdict
  rejects : SheetRefusal → SheetVerdict

-- by a run with that budget
abbrev pub IsSheetVerdict : ℕ → List ℕ → SheetVerdict → Type 0
IsSheetVerdict budget text (opens state) = Starts budget text state
IsSheetVerdict budget text (rejects why) = IsRejected text why

-- ---- command lines

-- What a command line is judged. That a search spends too much is no verdict: it comes in place of an edit or of a contradiction.
pub data Verdict : Type 0 where
  nothing : Verdict
  does : Task → Verdict
  refuses : Refusal → Verdict
  contradicts : NamedStatement → Verdict

abbrev pub IsVerdictOn : State → List ℕ → Verdict → Type 0
IsVerdictOn state line nothing = AsksNothing line
IsVerdictOn state line (does task) = IsTask state line task
IsVerdictOn state line (refuses why) = IsRefused state line why
IsVerdictOn state line (contradicts r) = IsContradiction state line r
