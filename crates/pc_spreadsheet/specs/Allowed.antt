-- What may answer a sheet and a command line, and what is noted on the way.
use Rattle.std.specs.Prelude.{◌≡◌, ℕ, ◌+◌, ◌*◌, ◌≤◌, true, List, [], ◌∷◌, ◌++◌, length, Option, Some, None, Contains}
use Rattle.pc_syntax.specs.Tree.{Asked, asks_enter, asks_also, asks_clear, asks_clear_one, asks_rule, asks_drop, asks_prove_repairs, asks_whynot, asks_ask, Cell, Value, Formula}
use Rattle.pc_syntax.specs.Command.{IsCommandReading, asks, TakesNoMemory}
use Rattle.pc_sheet.specs.Sheet.{Sheet, Statement, NamedStatement, with_rule}
use Rattle.pc_accept.specs.Asked.{asked}
use Rattle.pc_ask.specs.Asking.{AreReadSizes}
use Rattle.pc_sheet.specs.Entailment.{IsImplied}
use Rattle.pc_sheet.specs.WellFormed.{is_of_cell}
use Rattle.pc_sheet.specs.declared.ids.CellId.{CellId}
use Rattle.pc_sheet.specs.declared.ids.Entry.{Entry}
use Rattle.pc_sheet.specs.declared.ids.Target.{Target}
use Rattle.pc_books.specs.Edits.{is_same_entry, entered, also_entered, without_entry, without_cell, without_rule, HasRoomFor}
use Rattle.pc_elaborate.specs.Elaboration.{IsEntryNamed, IsCellNamed}
use Rattle.pc_sortcheck.specs.Declaring.{ReadsAs}
use Rattle.pc_lits.specs.declared.tally.Tally.{Tally}
use Rattle.pc_log.specs.Lines.{LogLine}
use Rattle.pc_world_list.specs.FewSets.{AreMaximalSets, HasFewSets}
use Rattle.pc_theory.specs.Spendings.{IsLawful}
use Rattle.pc_theory.specs.WholeSpendings.{IsSpentWhole}
use Rattle.pc_theory.specs.declared.spending.Spending.{Spending}
use Rattle.pc_session.specs.Answers.{AreSpare, StandsAlone}
use Rattle.pc_session.specs.NoteViews.{NoteView}
use Rattle.pc_books.specs.RuleNames.{IsRuleAt}
use Rattle.pc_session.specs.Views as session
use Rattle.pc_load.specs.Outcome.{HasFault}
use Rattle.pc_refusals.specs.declared.refusal.Counts.{Counts}
use Rattle.pc_refusals.specs.declared.refusal.SheetRefusal.{SheetRefusal}
use Rattle.pc_refusals.specs.declared.refusal.Refusal.{Refusal}
use Rattle.pc_refusals.specs.declared.refusal.Refusal.TheVariants.{TooLarge, Inconsistent, Spent}
use Rattle.pc_transcript.specs.Answer.{Answer, silent, accepted, shown, refused, no_memory}
use Rattle.pc_spreadsheet.specs.Judgement.{IsTooLarge, IsContradictory, of_whole}
use Rattle.pc_spreadsheet.specs.Refused.{IsRefused, IsContradiction}
use Rattle.pc_spreadsheet.specs.Tasks.{State, IsLight, Task, shows, entry_of_target, PageKind, HasEntryOf, IsNewRule, IsNewDenial, AsksNothing, IsTask, IsEdit, state_after}
use Rattle.pc_spreadsheet.specs.Pages.{PageSays, IsCertificateAgainst}

-- ---- what is spent

-- of each search that spent too much the sheet, the cell of an edit of an entry or none, and what was spent; oldest first
abbrev pub Notes : Type 0
Notes = List NoteView

-- the three numbers that are told
abbrev pub told_counts_of : Tally → Counts
told_counts_of t = record { placed = t.placed; learned = t.learned; calls = t.calls }

-- A search on this sheet, of the parts that an edit of this cell touches, or of all, lawfully spends the budget. That is told by these
-- counts, and noted as the last of the notes.
pub record IsLawfullySpent (budget : ℕ) (sheet : Sheet) (cell : Option CellId) (counts : Counts) (old new : Notes) : Type 0 where
  pub spending : Spending
  pub lawful : IsLawful sheet cell budget spending
  pub counts_are : counts ≡ told_counts_of spending.tally
  pub noted : new ≡ old ++ record { sheet = sheet; cell = cell; tally = session.counts_of spending.tally } ∷ []

-- Searches of the whole sheet, with at most one call more than it has maximal sets, lawfully spend the budget. That is told by these counts,
-- and noted as the last of the notes, without a cell.
pub record IsWholeSpent (budget : ℕ) (sheet : Sheet) (counts : Counts) (old new : Notes) : Type 0 where
  pub logs : List (List LogLine)
  pub tally : Tally
  pub spent : IsSpentWhole sheet logs tally
  pub limited : tally.limit ≡ budget
  pub few_calls : (sets : List (List Entry)) → AreMaximalSets sheet sets → tally.calls ≤ length sets + 1
  pub counts_are : counts ≡ told_counts_of tally
  pub noted : new ≡ old ++ record { sheet = sheet; cell = None; tally = session.counts_of tally } ∷ []

-- A search on the whole sheet in which the formula is asked lawfully spends the budget, with no more calls than the parts that the formula
-- reads have entries and maximal sets for. That is told by these counts, and noted as the last of the notes, without a cell.
pub record IsAskSpent (budget : ℕ) (sheet : Sheet) (f : Statement) (counts : Counts) (old new : Notes) : Type 0 where
  pub log : List LogLine
  pub tally : Tally
  pub spent : IsSpentWhole (asked sheet f) (log ∷ []) tally
  pub limited : tally.limit ≡ budget
  pub few_calls : (entries sets : ℕ) → AreReadSizes sheet f entries sets → tally.calls ≤ sets * (entries + 2) + 1
  pub counts_are : counts ≡ told_counts_of tally
  pub noted : new ≡ old ++ record { sheet = asked sheet f; cell = None; tally = session.counts_of tally } ∷ []

-- ---- sheets

-- By a run with that budget the text is refused so, with what is told after that, and these notes become those: for its first fault; as too
-- large; as inconsistent, with a certificate; or since its search spends too much.
pub data RefusesText (budget : ℕ) (text : List ℕ) (why : SheetRefusal) (more : List ℕ) (old new : Notes) : Type 0 where
  for_fault : HasFault text why → more ≡ [] → new ≡ old → RefusesText budget text why more old new
  for_weight : IsTooLarge text → why ≡ of_whole TooLarge → more ≡ [] → new ≡ old → RefusesText budget text why more old new
  for_rules : (sheet : Sheet) → IsContradictory text sheet → IsCertificateAgainst sheet more → why ≡ of_whole Inconsistent → new ≡ old → RefusesText budget text why more old new
  for_search : (sheet : Sheet) (counts : Counts) → ReadsAs text sheet → IsLight sheet → IsLawfullySpent budget sheet None counts old new → why ≡ of_whole (Spent counts) → more ≡ [] → RefusesText budget text why more old new

-- ---- command lines

-- The command asks for an edit that needs a search, of the parts that an edit of this cell touches, or of all, and would make this sheet:
-- to enter a value, unless it stands alone in its cell; to enter one that doesn't stand beside the cell's others; to clear a cell, or one entry,
-- of which something is in some implied target's least support; to add a rule of a new name, with which the sheet isn't too large; to drop
-- a rule.
pub data NeedsSearch (sheet : Sheet) : Asked → Option CellId → Sheet → Type 0 where
  to_enter : {c : Cell} {v : Value} (e : Entry) → IsEntryNamed sheet.universe c v e → ¬ StandsAlone sheet.entries e → NeedsSearch sheet (asks_enter c v) (Some e.cell) (entered sheet e)
  to_enter_beside : {c : Cell} {v : Value} (e : Entry) → IsEntryNamed sheet.universe c v e → HasRoomFor sheet e → NeedsSearch sheet (asks_also c v) (Some e.cell) (also_entered sheet e)
  to_clear : {c : Cell} (k : CellId) → IsCellNamed sheet.universe c k → HasEntryOf sheet k → ¬ AreSpare sheet (is_of_cell k) → NeedsSearch sheet (asks_clear c) (Some k) (without_cell sheet k)
  to_remove : {c : Cell} {v : Value} (e : Entry) → IsEntryNamed sheet.universe c v e → Contains sheet.entries e → ¬ AreSpare sheet (is_same_entry e) → NeedsSearch sheet (asks_clear_one c v) (Some e.cell) (without_entry sheet e)
  to_add : {n : List ℕ} {f : Formula} (r : NamedStatement) → IsNewRule sheet n f r → IsLight (with_rule sheet r) → NeedsSearch sheet (asks_rule n f) None (with_rule sheet r)
  to_drop : {n : List ℕ} (place : ℕ) → IsRuleAt sheet.rules n place → NeedsSearch sheet (asks_drop n) None (without_rule sheet place)

-- the command's search spends too much, which is told by these counts and noted
pub record SpendsFor (state : State) (a : Asked) (counts : Counts) (old new : Notes) : Type 0 where
  pub cell : Option CellId
  pub made : Sheet
  pub needs : NeedsSearch state.sheet a cell made
  pub spent : IsLawfullySpent state.budget made cell counts old new

-- the same of the command that a line asks
abbrev pub LineSpends : State → List ℕ → Counts → Notes → Notes → Type 0
LineSpends state line counts old new = (a : Asked) × IsCommandReading line (asks a) × SpendsFor state a counts old new

-- The command asks for a certificate of the maximal sets, which aren't too many for one: that they are all that there are; or that a target
-- isn't implied, which it isn't.
pub data NeedsProof (sheet : Sheet) : Asked → Type 0 where
  to_prove : HasFewSets sheet → NeedsProof sheet asks_prove_repairs
  to_doubt : {c : Cell} {v : Value} (t : Target) → IsEntryNamed sheet.universe c v (entry_of_target t) → t.holds ≡ true → HasFewSets sheet → ¬ IsImplied sheet t → NeedsProof sheet (asks_whynot c v)

-- the command's certificate needs searches that spend too much, which is told by these counts and noted
abbrev pub ProofSpends : State → Asked → Counts → Notes → Notes → Type 0
ProofSpends state a counts old new = NeedsProof state.sheet a × IsWholeSpent state.budget state.sheet counts old new

-- the same of the command that a line asks
abbrev pub LineProofSpends : State → List ℕ → Counts → Notes → Notes → Type 0
LineProofSpends state line counts old new = (a : Asked) × IsCommandReading line (asks a) × ProofSpends state a counts old new

-- the command asks this formula, and the asked sheet isn't too large
pub data NeedsAnswer (sheet : Sheet) : Asked → Statement → Type 0 where
  to_answer : {f : Formula} (s : Statement) → IsNewDenial sheet f s → IsLight (asked sheet s) → NeedsAnswer sheet (asks_ask f) s

-- the search for the command's answer spends too much, which is told by these counts and noted
abbrev pub AskSpends : State → Asked → Counts → Notes → Notes → Type 0
AskSpends state a counts old new = (f : Statement) × NeedsAnswer state.sheet a f × IsAskSpent state.budget state.sheet f counts old new

-- the same of the command that a line asks
abbrev pub LineAskSpends : State → List ℕ → Counts → Notes → Notes → Type 0
LineAskSpends state line counts old new = (a : Asked) × IsCommandReading line (asks a) × AskSpends state a counts old new

-- The line is refused so, with what is told after that: as it is judged; as a contradiction, with a certificate for the sheet with that
-- rule; or since its search, or that for its certificate or its answer, spends too much.
pub data RefusesLine (old : State × Notes) (line : List ℕ) (why : Refusal) (more : List ℕ) (new : State × Notes) : Type 0 where
  as_judged : IsRefused old.0 line why → more ≡ [] → new ≡ old → RefusesLine old line why more new
  as_contradiction : (r : NamedStatement) → IsContradiction old.0 line r → IsCertificateAgainst (with_rule old.0.sheet r) more → why ≡ Inconsistent → new ≡ old → RefusesLine old line why more new
  as_spent : (counts : Counts) → LineSpends old.0 line counts old.1 new.1 → why ≡ Spent counts → more ≡ [] → new.0 ≡ old.0 → RefusesLine old line why more new
  as_proof_spent : (counts : Counts) → LineProofSpends old.0 line counts old.1 new.1 → why ≡ Spent counts → more ≡ [] → new.0 ≡ old.0 → RefusesLine old line why more new
  as_ask_spent : (counts : Counts) → LineAskSpends old.0 line counts old.1 new.1 → why ≡ Spent counts → more ≡ [] → new.0 ≡ old.0 → RefusesLine old line why more new

-- In the state, the line may have this answer, and the next state and notes follow. Any line but one that takes none may want memory instead,
-- and an edit that needs a search, a certificate of maximal sets, or the answer to a formula, may spend too much instead.
abbrev pub Allows : State × Notes → List ℕ → Answer → State × Notes → Type 0
Allows old line silent new = AsksNothing line × (new ≡ old)
Allows old line accepted new = (task : Task) × IsTask old.0 line task × IsEdit task × (new ≡ (state_after old.0 task, old.1))
Allows old line (shown text) new = (kind : PageKind) × IsTask old.0 line (shows kind) × PageSays kind old.0.sheet text × (new ≡ old)
Allows old line (refused why more) new = RefusesLine old line why more new
Allows old line no_memory new = (¬ TakesNoMemory line) × (new ≡ old)
