-- From which texts a run starts, what a command line asks in a state, and the state after it.
use Rattle.std.specs.Prelude.{◌≡◌, ℕ, Bool, true, ◌<◌, ◌≤◌, List, [], length, Any, Contains}
use Rattle.pc_syntax.specs.Tree.{Asked, asks_enter, asks_also, asks_clear, asks_clear_one, asks_rule, asks_drop, asks_budget, asks_show, asks_grid, asks_json, asks_why, asks_dump, asks_repairs, asks_prove_repairs, asks_whynot, asks_ask, Cell, Value, Formula, not}
use Rattle.pc_syntax.specs.Command.{IsCommandReading, no_command, asks}
use Rattle.pc_sheet.specs.Limits.{most_rules, most_weight}
use Rattle.pc_sheet.specs.Sheet.{Sheet, Statement, NamedStatement, with_rule}
use Rattle.pc_accept.specs.Asked.{ask_name, denial, asked}
use Rattle.pc_sheet.specs.MaximalSets.{AreRulesConsistent}
use Rattle.pc_sheet.specs.Weight.{weight}
use Rattle.pc_sheet.specs.WellFormed.{IsWellFormedRule}
use Rattle.pc_sheet.specs.declared.ids.CellId.{CellId}
use Rattle.pc_sheet.specs.declared.ids.Entry.{Entry}
use Rattle.pc_sheet.specs.declared.ids.Target.{Target}
use Rattle.pc_books.specs.Edits.{entered, also_entered, without_cell, without_rule}
use Rattle.pc_books.specs.Edits as edits
use Rattle.pc_elaborate.specs.Elaboration.{IsEntryNamed, IsCellNamed, IsStatement}
use Rattle.pc_world_list.specs.FewSets.{HasFewSets}
use Rattle.pc_sortcheck.specs.Declaring.{ReadsAs}
use Rattle.pc_sortcheck.specs.DeclarationFaults.{HasRoomForEntry}
use Rattle.pc_books.specs.RuleNames.{IsNewName, IsRuleAt}

-- a sheet, and how many literals the search for one line may place
pub record State : Type 0 where
  pub sheet : Sheet
  pub budget : ℕ

-- within the limit of weight
abbrev pub IsLight : Sheet → Type 0
IsLight sheet = weight sheet ≤ most_weight

-- the text is a sheet that isn't too large and whose rules are consistent, and a run with that budget starts from it
pub record Starts (limit : ℕ) (text : List ℕ) (state : State) : Type 0 where
  pub reads : ReadsAs text state.sheet
  pub light : IsLight state.sheet
  pub consistent : AreRulesConsistent state.sheet
  pub budget : state.budget ≡ limit

-- ---- what a command asks

-- The kinds of page that a sheet can be shown as: the display line by line, as a table and as JSON; a text that reads back as the sheet;
-- why a target is implied, or that it isn't; the maximal sets of each part; a certificate that they are all that there are; why a target
-- isn't implied, or that it is; and why the formula is implied that the last rule of this sheet denies, or that it isn't.
pub data PageKind : Type 0 where
  lines_page : PageKind
  grid_page : PageKind
  json_page : PageKind
  text_page : PageKind
  why_page : Target → PageKind
  repairs_page : PageKind
  proof_page : PageKind
  whynot_page : Target → PageKind
  ask_page : Sheet → PageKind

-- an edit of the sheet, a budget, or a page
pub data Task : Type 0 where
  enters : Entry → Task
  enters_beside : Entry → Task
  clears : CellId → Task
  removes : Entry → Task
  adds : NamedStatement → Task
  drops : ℕ → Task
  budgets : ℕ → Task
  shows : PageKind → Task

abbrev pub HasEntryOf : Sheet → CellId → Type 0
HasEntryOf sheet k = Any (λ e. e.cell ≡ k) sheet.entries

-- the name and the formula stand for this rule, which is well formed, and there is room for it
pub record IsRuleOf (sheet : Sheet) (n : List ℕ) (f : Formula) (r : NamedStatement) : Type 0 where
  pub name : r.name ≡ n
  pub states : IsStatement sheet.universe [] f r.states
  pub formed : IsWellFormedRule sheet.universe r
  pub room : length sheet.rules < most_rules

-- ... and no rule has its name yet
abbrev pub IsNewRule : Sheet → List ℕ → Formula → NamedStatement → Type 0
IsNewRule sheet n f r = IsRuleOf sheet n f r × IsNewName sheet.rules n

-- the rule `ask : !F` stands for this statement's denial, is well formed, and there is room for it
abbrev pub IsDenialRule : Sheet → Formula → Statement → Type 0
IsDenialRule sheet f s = IsRuleOf sheet ask_name (not f) (denial s)

-- ... and no rule has that name yet
abbrev pub IsNewDenial : Sheet → Formula → Statement → Type 0
IsNewDenial sheet f s = IsNewRule sheet ask_name (not f) (denial s)

abbrev pub IsBudget : ℕ → Type 0
IsBudget n = (1 ≤ n) × (n ≤ 1000000000000)

abbrev pub entry_of_target : Target → Entry
entry_of_target t = record { cell = t.cell; value = t.value }

-- the command asks for this, and it can be done
pub data IsTaskOf (sheet : Sheet) : Asked → Task → Type 0 where
  entering : {c : Cell} {v : Value} (e : Entry) → IsEntryNamed sheet.universe c v e → IsTaskOf sheet (asks_enter c v) (enters e)
  entering_beside : {c : Cell} {v : Value} (e : Entry) → IsEntryNamed sheet.universe c v e → HasRoomForEntry sheet e → IsTaskOf sheet (asks_also c v) (enters_beside e)
  clearing : {c : Cell} (k : CellId) → IsCellNamed sheet.universe c k → HasEntryOf sheet k → IsTaskOf sheet (asks_clear c) (clears k)
  removing : {c : Cell} {v : Value} (e : Entry) → IsEntryNamed sheet.universe c v e → Contains sheet.entries e → IsTaskOf sheet (asks_clear_one c v) (removes e)
  adding : {n : List ℕ} {f : Formula} (r : NamedStatement) → IsNewRule sheet n f r → IsLight (with_rule sheet r) → AreRulesConsistent (with_rule sheet r) → IsTaskOf sheet (asks_rule n f) (adds r)
  dropping : {n : List ℕ} (place : ℕ) → IsRuleAt sheet.rules n place → IsTaskOf sheet (asks_drop n) (drops place)
  budgeting : {n : ℕ} → IsBudget n → IsTaskOf sheet (asks_budget n) (budgets n)
  asking : {c : Cell} {v : Value} {holds : Bool} (t : Target) → IsEntryNamed sheet.universe c v (entry_of_target t) → t.holds ≡ holds → IsTaskOf sheet (asks_why c v holds) (shows (why_page t))
  showing : IsTaskOf sheet asks_show (shows lines_page)
  showing_grid : IsTaskOf sheet asks_grid (shows grid_page)
  showing_json : IsTaskOf sheet asks_json (shows json_page)
  dumping : IsTaskOf sheet asks_dump (shows text_page)
  listing : IsTaskOf sheet asks_repairs (shows repairs_page)
  proving : HasFewSets sheet → IsTaskOf sheet asks_prove_repairs (shows proof_page)
  doubting : {c : Cell} {v : Value} (t : Target) → IsEntryNamed sheet.universe c v (entry_of_target t) → t.holds ≡ true → HasFewSets sheet → IsTaskOf sheet (asks_whynot c v) (shows (whynot_page t))
  inquiring : {f : Formula} (s : Statement) → IsNewDenial sheet f s → IsLight (asked sheet s) → IsTaskOf sheet (asks_ask f) (shows (ask_page (asked sheet s)))

-- the task is an edit of the state, and no page
abbrev pub IsEdit : Task → Type 0
IsEdit (shows kind) = ⊥
IsEdit task = Unit {0}

-- the state after the task is done
abbrev pub state_after : State → Task → State
state_after state (enters e) = record state { sheet = entered state.sheet e }
state_after state (enters_beside e) = record state { sheet = also_entered state.sheet e }
state_after state (clears k) = record state { sheet = without_cell state.sheet k }
state_after state (removes e) = record state { sheet = edits.without_entry state.sheet e }
state_after state (adds r) = record state { sheet = with_rule state.sheet r }
state_after state (drops place) = record state { sheet = without_rule state.sheet place }
state_after state (budgets n) = record state { budget = n }
state_after state (shows kind) = state

-- ---- command lines

-- the line is blank or a comment
abbrev pub AsksNothing : List ℕ → Type 0
AsksNothing line = IsCommandReading line no_command

-- the text of a command line asks for this
abbrev pub IsTask : State → List ℕ → Task → Type 0
IsTask state line task = (a : Asked) × IsCommandReading line (asks a) × IsTaskOf state.sheet a task
