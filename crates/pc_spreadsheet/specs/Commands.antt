-- What is done at a line.
use Rattle.std.specs.Prelude.{◌≡◌, [], ◌∷◌, ◌++◌, String, string_bytes}
use Rattle.std.specs.declared.alloc.Global.{Global}
use Rattle.std.specs.declared.option.Option.{Option}
use Rattle.std.specs.declared.option.Option.TheVariants.{Some, None}
use Rattle.pc_syntax.specs.declared.tree.CommandFault.{CommandFault}
use Rattle.pc_syntax.specs.declared.tree.CommandFault.TheVariants as command_fault
use Rattle.pc_syntax.specs.Tree.{Asked, asks_rule, asks_json, asks_repairs, asks_prove_repairs, asks_whynot, asks_ask}
use Rattle.pc_sheet.specs.Sheet.{Sheet, NamedStatement, with_rule}
use Rattle.pc_sheet.specs.declared.ids.CellId.{CellId}
use Rattle.pc_sheet.specs.declared.ids.Entry.{Entry}
use Rattle.pc_sheet.specs.declared.ids.Target.{Target}
use Rattle.pc_elaborate.specs.Elaboration.{IsEntryNamed}
use Rattle.pc_reason.specs.Targets.{IsTargetIn}
use Rattle.pc_refusals.specs.declared.refusal.Counts.{Counts}
use Rattle.pc_elaborate.specs.declared.fault.SortFault.{SortFault}
use Rattle.pc_elaborate.specs.declared.fault.SortFault.TheVariants as sort_fault
use Rattle.pc_theory.specs.Spendings.{IsLawful}
use Rattle.pc_theory.specs.declared.spending.Spending.{Spending}
use Rattle.pc_session.specs.Views.{SessionView}
use Rattle.pc_session.specs.Views as session
use Rattle.pc_session.specs.declared.refused.EditRefused.{EditRefused}
use Rattle.pc_session.specs.declared.refused.EditRefused.TheVariants as edit
use Rattle.pc_transcript.specs.declared.machine.Reply.{Reply}
use Rattle.pc_transcript.specs.declared.machine.Reply.TheVariants.{Silent, Accepted, Shown, Refused, Memory}
use Rattle.pc_refusals.specs.declared.refusal.Refusal.{Refusal}
use Rattle.pc_refusals.specs.declared.refusal.Refusal.TheVariants.{NotUtf8, Syntax, TooDeep, TooLarge, Inconsistent, Spent, NoEntry, DuplicateRule, NoRule}
use Rattle.pc_display.specs.Json.{IsJson}
use Rattle.pc_load.specs.Refusals.{IsSortRefusal}
use Rattle.pc_spreadsheet.specs.Refused.{MakesContradiction, IsRefusalOf}
use Rattle.pc_spreadsheet.specs.Tasks.{State, Task, shows, why_page, IsTaskOf, IsEdit, state_after}
use Rattle.pc_spreadsheet.specs.Pages.{CanShow, kind_of}
use Rattle.pc_spreadsheet.specs.Allowed.{Notes, told_counts_of, NeedsSearch, SpendsFor, ProofSpends, AskSpends}
use Rattle.pc_spreadsheet.specs.declared.page.Page.{Page}
use Rattle.pc_spreadsheet.specs.declared.page.Page.TheVariants.{Json, Why}

-- what is told of a command line, where refutations are seen as their sheets
abbrev pub Told : Type 0
Told = Reply Page Sheet

abbrev pub state_of : SessionView → State
state_of s = record { sheet = s.sheet; budget = s.budget }

-- how the fault of a command line is told
abbrev pub reply_to : CommandFault → Told
reply_to command_fault.NotUtf8 = Refused NotUtf8 None
reply_to command_fault.TooDeep = Refused TooDeep None
reply_to command_fault.Syntax = Refused Syntax None
reply_to command_fault.Memory = Memory

-- a fault of names or sorts is told so
pub data IsToldAs (e : SortFault) : Told → Type 0 where
  as_refusal : (why : Refusal) → IsSortRefusal e why → IsToldAs e (Refused why None)
  as_memory : e ≡ sort_fault.Memory → IsToldAs e Memory

-- what was spent on the sheet is noted and told, or there was no memory for it
pub data NotesSpent (sheet : Sheet) (cell : Option CellId) (spending : Spending) (old new : Notes) : Told → Type 0 where
  noted : (counts : Counts) → counts ≡ told_counts_of spending.tally → new ≡ old ++ record { sheet = sheet; cell = cell; tally = session.counts_of spending.tally } ∷ [] → NotesSpent sheet cell spending old new (Refused (Spent counts) None)
  not_noted : new ≡ old → NotesSpent sheet cell spending old new Memory

-- what a refused edit of that cell, or of a rule, has spent is lawful for the sheet that it would have made
abbrev pub IsSpentLawfully : EditRefused → Option CellId → Type 0
IsSpentLawfully edit.NoEntry cell = Unit {0}
IsSpentLawfully edit.DuplicateRule cell = Unit {0}
IsSpentLawfully edit.NoRule cell = Unit {0}
IsSpentLawfully edit.TooLarge cell = Unit {0}
IsSpentLawfully (edit.Inconsistent sheet) cell = Unit {0}
IsSpentLawfully (edit.Spent made spending) cell = IsLawful made cell spending.tally.limit spending
IsSpentLawfully edit.Memory cell = Unit {0}

-- how a refused edit is told; what it has spent is noted too
abbrev pub TellsRefused : EditRefused → Option CellId → Notes → Notes → Told → Type 0
TellsRefused edit.NoEntry cell old new told = (told ≡ Refused NoEntry None) × (new ≡ old)
TellsRefused edit.DuplicateRule cell old new told = (told ≡ Refused DuplicateRule None) × (new ≡ old)
TellsRefused edit.NoRule cell old new told = (told ≡ Refused NoRule None) × (new ≡ old)
TellsRefused edit.TooLarge cell old new told = (told ≡ Refused TooLarge None) × (new ≡ old)
TellsRefused (edit.Inconsistent sheet) cell old new told = (told ≡ Refused Inconsistent (Some sheet)) × (new ≡ old)
TellsRefused (edit.Spent made spending) cell old new told = NotesSpent made cell spending old new told
TellsRefused edit.Memory cell old new told = (told ≡ Memory) × (new ≡ old)

-- a question is a page, or it is refused; it wants no memory
pub data Explains (sheet : Sheet) (a : Asked) : Told → Type 0 where
  by_page : (t : Target) → IsTaskOf sheet a (shows (why_page t)) → IsTargetIn sheet.universe t → Explains sheet a (Shown (Why t))
  by_refusal : (why : Refusal) → IsRefusalOf sheet a why → Explains sheet a (Refused why None)

-- the display as JSON is a page, or there was no memory for it
pub data ShowsJson (sheet : Sheet) : Told → Type 0 where
  by_text : (text : String Global) → IsJson sheet (string_bytes text) → ShowsJson sheet (Shown (Json text))
  for_memory : ShowsJson sheet Memory

-- The commands that may want memory once they are read: to add a rule, to ask a formula, to show the display as JSON, to list the maximal
-- sets, to prove anything of them once its names are known, and each edit that needs a search. So to ask why a target is implied wants none, nor does an edit
-- that changes nothing, one that removes only entries that no least support has, nor a refusal for want of the entry or the rule.
abbrev pub MayWantMemory : Sheet → Asked → Type 0
MayWantMemory sheet (asks_rule n f) = Unit {0}
MayWantMemory sheet (asks_ask f) = Unit {0}
MayWantMemory sheet asks_json = Unit {0}
MayWantMemory sheet asks_repairs = Unit {0}
MayWantMemory sheet asks_prove_repairs = Unit {0}
MayWantMemory sheet (asks_whynot c v) = (e : Entry) × IsEntryNamed sheet.universe c v e
MayWantMemory sheet a = (cell : Option CellId) × (made : Sheet) × NeedsSearch sheet a cell made

-- A refused command: as it is judged; as a contradiction, which the sheet with that rule shows; or since its search, or that for its
-- certificate or its answer, spends too much.
pub data RefusesAsked (old : State × Notes) (a : Asked) (why : Refusal) (proof : Option Sheet) (new : State × Notes) : Type 0 where
  judged : IsRefusalOf old.0.sheet a why → proof ≡ None → new ≡ old → RefusesAsked old a why proof new
  contradicted : (r : NamedStatement) → MakesContradiction old.0.sheet a r → why ≡ Inconsistent → proof ≡ Some (with_rule old.0.sheet r) → new ≡ old → RefusesAsked old a why proof new
  spent : (counts : Counts) → SpendsFor old.0 a counts old.1 new.1 → why ≡ Spent counts → proof ≡ None → new.0 ≡ old.0 → RefusesAsked old a why proof new
  proof_spent : (counts : Counts) → ProofSpends old.0 a counts old.1 new.1 → why ≡ Spent counts → proof ≡ None → new.0 ≡ old.0 → RefusesAsked old a why proof new
  ask_spent : (counts : Counts) → AskSpends old.0 a counts old.1 new.1 → why ≡ Spent counts → proof ≡ None → new.0 ≡ old.0 → RefusesAsked old a why proof new

-- What a command does: an edit, a page, or a refusal, and then the state stays, as it does at want of memory.
abbrev pub Obeys : State × Notes → Asked → Told → State × Notes → Type 0
Obeys old a Accepted new = (task : Task) × IsTaskOf old.0.sheet a task × IsEdit task × (new ≡ (state_after old.0 task, old.1))
Obeys old a (Shown page) new = IsTaskOf old.0.sheet a (shows (kind_of page)) × CanShow page old.0 × (new ≡ old)
Obeys old a (Refused why proof) new = RefusesAsked old a why proof new
Obeys old a Memory new = MayWantMemory old.0.sheet a × (new ≡ old)
Obeys old a Silent new = ⊥
