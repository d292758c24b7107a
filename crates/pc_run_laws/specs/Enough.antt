-- When a budget is enough for a search, and what a session's calls spend.
use Rattle.std.specs.Prelude.{ℕ, ◌+◌, ◌*◌, ◌^◌, ◌<◌, ◌≤◌, ◌⊎◌, List, Option, Some, None, length}
use Rattle.pc_sheet.specs.Limits.{most_rules}
use Rattle.pc_sheet.specs.Sheet.{Sheet, Statement, NamedStatement, with_rule}
use Rattle.pc_accept.specs.Asked.{asked}
use Rattle.pc_ask.specs.Asking.{AreReadSizes}
use Rattle.pc_sheet.specs.WellFormed.{IsWellFormed, IsWellFormedRule, IsEntryOf, is_of_cell}
use Rattle.pc_sheet.specs.declared.ids.CellId.{CellId}
use Rattle.pc_sheet.specs.declared.ids.Entry.{Entry}
use Rattle.pc_books.specs.Edits.{is_same_entry, entered, also_entered, without_entry, without_cell, without_rule}
use Rattle.pc_ground.specs.Variables.{variable_count}
use Rattle.pc_world_list.specs.FewSets.{AreMaximalSets}
use Rattle.pc_components.specs.View.{Kept, AreComponentsOf}
use Rattle.pc_theory.specs.Theories.{rules_alone}
use Rattle.pc_theory.specs.declared.spending.Spending.{Spending}
use Rattle.pc_enough_laws.specs.Enough.{enough_for, enough_for_all}
use Rattle.pc_session.specs.Answers.{HasPlaceFor}
use Rattle.pc_session.specs.Causes.{IsLoadCause, IsEntryCause, IsRemovalCause}
use Rattle.pc_session.specs.Rules.{IsAddCause, IsDropCause}
use Rattle.pc_books.specs.RuleNames.{IsRuleAt}
use Rattle.pc_session.specs.declared.refused.LoadRefused.TheVariants as load_refused
use Rattle.pc_session.specs.declared.refused.EditRefused.TheVariants as edit_refused

-- for the parts of the sheet that an edit of this cell touches, or for all parts, in some way to keep them; or for the whole sheet
abbrev pub IsEnough : Sheet → Option CellId → ℕ → Type 0
IsEnough sheet touched budget = ((kept : Kept) × AreComponentsOf (rules_alone sheet) kept × (enough_for sheet touched kept ≤ budget)) ⊎ (enough_for_all sheet ≤ budget)

-- for the searches of the whole sheet of which a certificate of its maximal sets is made: at most one call more than there are of these
abbrev pub IsEnoughToProve : Sheet → ℕ → Type 0
IsEnoughToProve sheet budget = (sets : List (List Entry)) × AreMaximalSets sheet sets × (variable_count sheet * (3 ^ (variable_count sheet + 1) + (length sets + 1)) ≤ budget)

-- less than enough for the touched parts, however they are kept, and less than enough for the whole sheet
pub record IsTooLittle (sheet : Sheet) (touched : Option CellId) (budget : ℕ) : Type 0 where
  pub for_parts : (kept : Kept) → AreComponentsOf (rules_alone sheet) kept → budget < enough_for sheet touched kept
  pub for_whole : budget < enough_for_all sheet

-- for the search of the whole sheet in which a formula is asked, whose calls are bounded by the entries and maximal sets of the parts that it reads
abbrev pub IsEnoughToAsk : Sheet → Statement → ℕ → Type 0
IsEnoughToAsk sheet f budget = (entries : ℕ) × (sets : ℕ) × AreReadSizes sheet f entries sets
    × (variable_count (asked sheet f) * (3 ^ variable_count (asked sheet f) + (sets * (entries + 2) + 1)) ≤ budget)

-- ---- a session's calls

-- A load of the sheet, and each edit of it, answers that its budget is spent only where that is too little for the sheet that it would make.
pub record SpendsTooLittle (sheet : Sheet) (budget : ℕ) : Type 0 where
  pub load : (book : Sheet) (s : Spending) → IsLoadCause sheet budget (load_refused.Spent book s) → IsTooLittle sheet None budget
  pub enter : (e : Entry) (book : Sheet) (s : Spending) → IsEntryOf sheet.universe e → IsEntryCause (entered sheet e) e.cell budget (edit_refused.Spent book s) → IsTooLittle (entered sheet e) (Some e.cell) budget
  pub also : (e : Entry) (book : Sheet) (s : Spending) → IsEntryOf sheet.universe e → HasPlaceFor sheet.entries e → IsEntryCause (also_entered sheet e) e.cell budget (edit_refused.Spent book s) → IsTooLittle (also_entered sheet e) (Some e.cell) budget
  pub clear : (c : CellId) (book : Sheet) (s : Spending) → IsRemovalCause (is_of_cell c) sheet.entries (without_cell sheet c) c budget (edit_refused.Spent book s) → IsTooLittle (without_cell sheet c) (Some c) budget
  pub clear_one : (e : Entry) (book : Sheet) (s : Spending) → IsRemovalCause (is_same_entry e) sheet.entries (without_entry sheet e) e.cell budget (edit_refused.Spent book s) → IsTooLittle (without_entry sheet e) (Some e.cell) budget
  pub add_rule : (r : NamedStatement) (book : Sheet) (s : Spending) → IsWellFormedRule sheet.universe r → length sheet.rules < most_rules → IsAddCause sheet r budget (edit_refused.Spent book s) → IsTooLittle (with_rule sheet r) None budget
  pub drop_rule : (name : List ℕ) (book : Sheet) (s : Spending) → IsDropCause sheet name budget (edit_refused.Spent book s) → (k : ℕ) × IsRuleAt sheet.rules name k × IsTooLittle (without_rule sheet k) None budget

-- so it is of each well-formed sheet
abbrev pub CallsSpendTooLittle : Type 0
CallsSpendTooLittle = (sheet : Sheet) (budget : ℕ) → IsWellFormed sheet → 1 ≤ budget → SpendsTooLittle sheet budget
