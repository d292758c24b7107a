-- What answers come where the budget is enough.
use Rattle.std.specs.Prelude.{◌≡◌, ℕ, ◌≤◌, ◌⊎◌, List, [], Option, None}
use Rattle.pc_syntax.specs.Tree.{Asked}
use Rattle.pc_syntax.specs.Command.{IsCommandReading, asks}
use Rattle.pc_sheet.specs.Sheet.{Sheet, Statement, with_rule}
use Rattle.pc_sheet.specs.WellFormed.{IsWellFormed}
use Rattle.pc_sheet.specs.declared.ids.CellId.{CellId}
use Rattle.pc_sortcheck.specs.Declaring.{ReadsAs}
use Rattle.pc_refusals.specs.declared.refusal.SheetRefusal.{SheetRefusal}
use Rattle.pc_refusals.specs.declared.refusal.Refusal.TheVariants.{Inconsistent}
use Rattle.pc_transcript.specs.Answer.{Answer, silent, accepted, shown, refused, no_memory}
use Rattle.pc_transcript.specs.Transcript.{Transcript, Legal}
use Rattle.pc_spreadsheet.specs.Judgement.{Verdict, nothing, does, refuses, contradicts, IsVerdictOn, IsRejected}
use Rattle.pc_spreadsheet.specs.Tasks.{State, IsLight, Task, shows, Starts}
use Rattle.pc_spreadsheet.specs.Allowed.{Notes, NeedsSearch, NeedsProof, NeedsAnswer, Allows, RefusesText}
use Rattle.pc_spreadsheet.specs.Pages.{PageSays, IsCertificateAgainst}
use Rattle.pc_run_laws.specs.Enough.{IsEnough, IsEnoughToProve, IsEnoughToAsk}

-- ---- lines

-- The budget is enough for what the line needs: for the search of an edit, for searches of the whole sheet for a certificate of its maximal
-- sets, and for the search that answers whether a formula is implied. A line needs one of them at most.
pub record HasEnough (state : State) (line : List ℕ) : Type 0 where
  pub to_edit : (a : Asked) (cell : Option CellId) (made : Sheet) → IsCommandReading line (asks a) → NeedsSearch state.sheet a cell made → IsEnough made cell state.budget
  pub to_prove : (a : Asked) → IsCommandReading line (asks a) → NeedsProof state.sheet a → IsEnoughToProve state.sheet state.budget
  pub to_ask : (a : Asked) (f : Statement) → IsCommandReading line (asks a) → NeedsAnswer state.sheet a f → IsEnoughToAsk state.sheet f state.budget

-- `ok`, or the page
abbrev pub IsDone : State → Task → Answer → Type 0
IsDone state (shows kind) answer = (text : List ℕ) × PageSays kind state.sheet text × (answer ≡ shown text)
IsDone state task answer = answer ≡ accepted

-- what tells the verdict: silence, that the task is done, the refusal, or the contradiction with its certificate
abbrev pub Tells : State → Verdict → Answer → Type 0
Tells state nothing answer = answer ≡ silent
Tells state (does task) answer = IsDone state task answer
Tells state (refuses why) answer = answer ≡ refused why []
Tells state (contradicts r) answer = (text : List ℕ) × IsCertificateAgainst (with_rule state.sheet r) text × (answer ≡ refused Inconsistent text)

-- the answer tells the verdict, or memory was wanting; and nothing was noted
pub record IsAsJudged (old : State × Notes) (verdict : Verdict) (answer : Answer) (new : State × Notes) : Type 0 where
  pub told : Tells old.0 verdict answer ⊎ (answer ≡ no_memory)
  pub none_noted : new.1 ≡ old.1

-- the answer is allowed; and where the budget is enough it is as the line is judged
pub record AllowsInFull (old : State × Notes) (line : List ℕ) (answer : Answer) (new : State × Notes) : Type 0 where
  pub allowed : Allows old line answer new
  pub judged : HasEnough old.0 line → (verdict : Verdict) → IsVerdictOn old.0 line verdict → IsAsJudged old verdict answer new

-- so it is of each line, in a well-formed state with a budget
abbrev pub LinesAreAnsweredInFull : Type 0
LinesAreAnsweredInFull =
    (old new : State × Notes) (line : List ℕ) (answer : Answer) → IsWellFormed old.0.sheet → 1 ≤ old.0.budget → Allows old line answer new → AllowsInFull old line answer new

-- and of each line of a transcript that starts in such a state
abbrev pub TranscriptsAreInFull : Type 0
TranscriptsAreInFull = (old new : State × Notes) (transcript : Transcript) → IsWellFormed old.0.sheet → 1 ≤ old.0.budget → Legal Allows old transcript new → Legal AllowsInFull old transcript new

-- ---- sheets

-- the budget is enough for the sheet that the text reads as, if there is one that isn't too large
abbrev pub HasEnoughFor : ℕ → List ℕ → Type 0
HasEnoughFor budget text = (sheet : Sheet) → ReadsAs text sheet → IsLight sheet → IsEnough sheet None budget

-- the refusal may come; and where the budget is enough the text is judged so, and nothing was noted
pub record RefusesInFull (budget : ℕ) (text : List ℕ) (why : SheetRefusal) (more : List ℕ) (old new : Notes) : Type 0 where
  pub refused : RefusesText budget text why more old new
  pub judged : HasEnoughFor budget text → IsRejected text why × (new ≡ old)

-- so it is of each text
abbrev pub TextsAreRefusedInFull : Type 0
TextsAreRefusedInFull = (budget : ℕ) (text : List ℕ) (why : SheetRefusal) (more : List ℕ) (old new : Notes) → 1 ≤ budget → RefusesText budget text why more old new → RefusesInFull budget text why more old new

-- A text from which a run starts isn't refused, where the budget is enough.
abbrev pub TextsOfEnoughAreOpened : Type 0
TextsOfEnoughAreOpened =
    (budget : ℕ) (text : List ℕ) (state : State) → 1 ≤ budget → Starts budget text state → HasEnoughFor budget text → (why : SheetRefusal) (more : List ℕ) (old new : Notes) → ¬ RefusesText budget text why more old new
