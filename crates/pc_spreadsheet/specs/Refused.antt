-- Why a command line is refused, and which rules leave no assignment.
use Rattle.std.specs.Prelude.{ℕ, ◌<◌, List, Contains}
use Rattle.pc_syntax.specs.Tree.{enter, also, Asked, asks_enter, asks_also, asks_clear, asks_clear_one, asks_rule, asks_drop, asks_budget, asks_why, asks_prove_repairs, asks_whynot, asks_ask, Cell, Value, Formula, not}
use Rattle.pc_syntax.specs.Fault.{not_utf8, too_deep, syntax}
use Rattle.pc_syntax.specs.Command.{IsCommandReading, asks, at_fault}
use Rattle.pc_sheet.specs.Limits.{most_weight}
use Rattle.pc_sheet.specs.Sheet.{Sheet, Statement, NamedStatement, with_rule}
use Rattle.pc_accept.specs.Asked.{ask_name, asked}
use Rattle.pc_sheet.specs.MaximalSets.{AreRulesConsistent}
use Rattle.pc_sheet.specs.Weight.{weight}
use Rattle.pc_sheet.specs.declared.ids.CellId.{CellId}
use Rattle.pc_sheet.specs.declared.ids.Entry.{Entry}
use Rattle.pc_elaborate.specs.declared.fault.SortFault.{SortFault}
use Rattle.pc_elaborate.specs.declared.fault.SortFault.TheVariants as fault
use Rattle.pc_sheet.specs.declared.limits.Limited.TheVariants as limited
use Rattle.pc_elaborate.specs.Elaboration.{IsEntryNamed, IsCellNamed}
use Rattle.pc_elaborate.specs.FormulaFaults.{IsCellFault}
use Rattle.pc_elaborate.specs.Tests.{no_test, test}
use Rattle.pc_world_list.specs.FewSets.{HasManySets}
use Rattle.pc_sortcheck.specs.DeclarationFaults.{IsDeclarationFault, IsRuleFault}
use Rattle.pc_books.specs.RuleNames.{IsNewName}
use Rattle.pc_refusals.specs.declared.refusal.Refusal.{Refusal}
use Rattle.pc_refusals.specs.declared.refusal.Refusal.TheVariants.{NotUtf8, Syntax, TooManySets, TooLarge, NoEntry, DuplicateRule, NoRule, TooDeep}
use Rattle.pc_load.specs.Refusals.{IsSortRefusal}
use Rattle.pc_spreadsheet.specs.Tasks.{State, IsLight, HasEntryOf, IsRuleOf, IsNewRule, IsDenialRule, IsNewDenial, IsBudget}

-- ---- commands

-- the faults of a command's names and sorts, of its cell's entries, or of its number
abbrev pub IsAskedFault : Sheet → Asked → SortFault → Type 0
IsAskedFault sheet (asks_enter c v) = IsDeclarationFault sheet (enter c v)
IsAskedFault sheet (asks_also c v) = IsDeclarationFault sheet (also c v)
IsAskedFault sheet (asks_clear_one c v) = IsDeclarationFault sheet (enter c v)
IsAskedFault sheet (asks_why c v holds) = IsDeclarationFault sheet (enter c v)
IsAskedFault sheet (asks_whynot c v) = IsDeclarationFault sheet (enter c v)
IsAskedFault sheet (asks_clear c) = IsCellFault sheet.universe c
IsAskedFault sheet (asks_rule n f) = IsRuleFault sheet f no_test
IsAskedFault sheet (asks_ask f) = IsRuleFault sheet (not f) no_test
IsAskedFault sheet (asks_budget n) = test (IsBudget n) (fault.Limit limited.Budget) no_test
IsAskedFault sheet a = no_test

-- The command is refused so: for its names, sorts and limits first; to clear a cell without an entry, or an entry that doesn't stand; to add a
-- rule of a name that a rule has, to drop a rule that isn't there; to add a rule with which the sheet is too large; to tell a certificate
-- of more maximal sets than one may have; to ask a formula where a rule has the name of the one that denies it, or makes the sheet too large.
pub data IsRefusalOf (sheet : Sheet) : Asked → Refusal → Type 0 where
  by_fault : {a : Asked} {why : Refusal} (e : SortFault) → IsAskedFault sheet a e → IsSortRefusal e why → IsRefusalOf sheet a why
  without_entry : {c : Cell} (k : CellId) → IsCellNamed sheet.universe c k → ¬ HasEntryOf sheet k → IsRefusalOf sheet (asks_clear c) NoEntry
  without_that : {c : Cell} {v : Value} (e : Entry) → IsEntryNamed sheet.universe c v e → ¬ Contains sheet.entries e → IsRefusalOf sheet (asks_clear_one c v) NoEntry
  of_old_name : {n : List ℕ} {f : Formula} (r : NamedStatement) → IsRuleOf sheet n f r → ¬ IsNewName sheet.rules n → IsRefusalOf sheet (asks_rule n f) DuplicateRule
  of_no_rule : {n : List ℕ} → IsNewName sheet.rules n → IsRefusalOf sheet (asks_drop n) NoRule
  too_large : {n : List ℕ} {f : Formula} (r : NamedStatement) → IsNewRule sheet n f r → most_weight < weight (with_rule sheet r) → IsRefusalOf sheet (asks_rule n f) TooLarge
  too_many_sets : HasManySets sheet → IsRefusalOf sheet asks_prove_repairs TooManySets
  too_many_for : {c : Cell} {v : Value} (e : Entry) → IsEntryNamed sheet.universe c v e → HasManySets sheet → IsRefusalOf sheet (asks_whynot c v) TooManySets
  of_rule_ask : {f : Formula} (s : Statement) → IsDenialRule sheet f s → ¬ IsNewName sheet.rules ask_name → IsRefusalOf sheet (asks_ask f) DuplicateRule
  too_large_asked : {f : Formula} (s : Statement) → IsNewDenial sheet f s → most_weight < weight (asked sheet s) → IsRefusalOf sheet (asks_ask f) TooLarge

-- The command asks to add this rule, with which the sheet isn't too large and no assignment makes every rule true.
pub data MakesContradiction (sheet : Sheet) : Asked → NamedStatement → Type 0 where
  contradicting : {n : List ℕ} {f : Formula} (r : NamedStatement) → IsNewRule sheet n f r → IsLight (with_rule sheet r) → ¬ AreRulesConsistent (with_rule sheet r) → MakesContradiction sheet (asks_rule n f) r

-- ---- command lines

-- the command line is refused so: for its text first
pub data IsRefused (state : State) (line : List ℕ) : Refusal → Type 0 where
  for_utf8 : IsCommandReading line (at_fault not_utf8) → IsRefused state line NotUtf8
  for_depth : IsCommandReading line (at_fault too_deep) → IsRefused state line TooDeep
  for_syntax : IsCommandReading line (at_fault syntax) → IsRefused state line Syntax
  for_asked : {why : Refusal} (a : Asked) → IsCommandReading line (asks a) → IsRefusalOf state.sheet a why → IsRefused state line why

-- the line asks to add a rule with which no assignment makes every rule true
abbrev pub IsContradiction : State → List ℕ → NamedStatement → Type 0
IsContradiction state line r = (a : Asked) × IsCommandReading line (asks a) × MakesContradiction state.sheet a r
