-- What a session's calls spend, and what is told of it, in numbers.
use Rattle.std.specs.Prelude.{◌≡◌, ℕ, ◌+◌, ◌*◌, ◌^◌, ◌≤◌, List, length, map, Contains, Option, Some, None, slice_get}
use Rattle.std.specs.List.{AllZip}
use Rattle.pc_lits.specs.declared.literal.Var.{Var}
use Rattle.pc_syntax.specs.Tree.{Asked}
use Rattle.pc_syntax.specs.Command.{IsCommandReading, asks}
use Rattle.pc_sheet.specs.Sheet.{Sheet, Statement}
use Rattle.pc_sheet.specs.WellFormed.{IsWellFormed}
use Rattle.pc_sheet.specs.declared.ids.CellId.{CellId}
use Rattle.pc_sheet.specs.declared.ids.Entry.{Entry}
use Rattle.pc_sortcheck.specs.Declaring.{ReadsAs}
use Rattle.pc_ground.specs.Variables.{variable_count}
use Rattle.pc_world_list.specs.FewSets.{AreMaximalSets}
use Rattle.pc_parts.specs.Parts.{Part}
use Rattle.pc_parts.specs.Components.{parts_of}
use Rattle.pc_components.specs.View.{Kept, AreComponentsOf}
use Rattle.pc_theory.specs.Spendings.{AreFewCalls}
use Rattle.pc_theory.specs.Theories.{rules_alone, IsPartNumbered}
use Rattle.pc_accept.specs.Asked.{asked}
use Rattle.pc_ask.specs.Asking.{AreReadSizes}
use Rattle.pc_enough_laws.specs.Enough.{sum_of_touched, most_learned, IsMostCalls}
use Rattle.pc_session.specs.Views as session
use Rattle.pc_refusals.specs.declared.refusal.Counts.{Counts}
use Rattle.pc_refusals.specs.declared.refusal.Refusal.TheVariants.{Spent}
use Rattle.pc_spreadsheet.specs.Judgement.{of_whole}
use Rattle.pc_spreadsheet.specs.Tasks.{State}
use Rattle.pc_spreadsheet.specs.Allowed.{Notes, NeedsSearch, LineSpends, NeedsProof, LineProofSpends, NeedsAnswer, LineAskSpends, RefusesText}
use Rattle.pc_run_laws.specs.Enough.{IsTooLittle}

-- Of a search of the touched parts of a sheet, in some way to keep them: so many literals placed by its pairs and nodes, so many clauses learned
-- by the variables of these parts, and so many calls by their maximal sets, targets and entries.
pub record AreFew (sheet : Sheet) (touched : Option CellId) (placed learned calls : ℕ) : Type 0 where
  pub kept : Kept
  pub are : AreComponentsOf (rules_alone sheet) kept
  pub few_placed : placed ≤ variable_count sheet * (learned + calls)
  pub few_learned : learned ≤ sum_of_touched touched (parts_of (rules_alone sheet)) (map most_learned kept.variables)
  pub few_calls : (most_calls : List ℕ) → AllZip (IsMostCalls sheet) (parts_of (rules_alone sheet)) most_calls → calls ≤ sum_of_touched touched (parts_of (rules_alone sheet)) most_calls

-- ---- accepted edits

-- After a load, or an accepted edit that searches, the tally has such numbers for the new sheet, and no more clauses learned than literals placed
-- and calls made.
pub record IsCounted (sheet : Sheet) (touched : Option CellId) (counts : session.Counts) : Type 0 where
  pub few : AreFew sheet touched counts.placed counts.learned counts.calls
  pub within : counts.learned ≤ counts.placed + counts.calls

-- After one of an entry they are those of the part that has its cell.
pub record IsCountedOnPart (sheet : Sheet) (c : CellId) (counts : session.Counts) : Type 0 where
  pub kept : Kept
  pub are : AreComponentsOf (rules_alone sheet) kept
  pub on_part : (i : ℕ) (part : Part) (own : List Var) → IsPartNumbered (rules_alone sheet) i part → Contains part.cells c.0 → slice_get kept.variables i ≡ Some own
      → (counts.placed ≤ length own * (counts.learned + counts.calls)) × AreFewCalls sheet part counts.calls

-- so it is of each tally that a session's calls promise
pub record TalliesAreCounted : Type 0 where
  pub whole : (sheet : Sheet) (touched : Option CellId) (budget : ℕ) (counts : session.Counts) → IsWellFormed sheet → session.IsTallyOf sheet touched budget counts → IsCounted sheet touched counts
  pub on_part : (sheet : Sheet) (c : CellId) (budget : ℕ) (counts : session.Counts) → IsWellFormed sheet → session.IsTallyOf sheet (Some c) budget counts → IsCountedOnPart sheet c counts

-- ---- told numbers

-- The numbers of a spent search: all of the budget was placed, which is too little, and they are few.
pub record IsToldSpent (budget : ℕ) (sheet : Sheet) (touched : Option CellId) (counts : Counts) : Type 0 where
  pub all : counts.placed ≡ budget
  pub few : AreFew sheet touched counts.placed counts.learned counts.calls
  pub too_little : 1 ≤ budget → IsTooLittle sheet touched budget

-- The same of searches of the whole sheet for a certificate of its maximal sets.
pub record IsToldSpentWhole (budget : ℕ) (sheet : Sheet) (counts : Counts) : Type 0 where
  pub all : counts.placed ≡ budget
  pub few_placed : counts.placed ≤ variable_count sheet * (counts.learned + counts.calls)
  pub few_learned : counts.learned ≤ 3 ^ (variable_count sheet + 1)
  pub few_calls : (sets : List (List Entry)) → AreMaximalSets sheet sets → counts.calls ≤ length sets + 1

-- The same of a search of the whole sheet in which a formula is asked, by the entries and maximal sets of the parts that it reads.
pub record IsToldSpentAsking (budget : ℕ) (sheet : Sheet) (f : Statement) (counts : Counts) : Type 0 where
  pub all : counts.placed ≡ budget
  pub few_placed : counts.placed ≤ variable_count (asked sheet f) * (counts.learned + counts.calls)
  pub few_learned : counts.learned ≤ 3 ^ variable_count (asked sheet f)
  pub few_calls : (entries sets : ℕ) → AreReadSizes sheet f entries sets → counts.calls ≤ sets * (entries + 2) + 1

-- the line asks for an edit that needs a search, whose numbers they are
pub record TellsOfEdit (state : State) (line : List ℕ) (counts : Counts) : Type 0 where
  pub command : Asked
  pub cell : Option CellId
  pub made : Sheet
  pub reading : IsCommandReading line (asks command)
  pub needs : NeedsSearch state.sheet command cell made
  pub told : IsToldSpent state.budget made cell counts

-- the line asks for a certificate of the maximal sets, for which they are the numbers
pub record TellsOfProof (state : State) (line : List ℕ) (counts : Counts) : Type 0 where
  pub command : Asked
  pub reading : IsCommandReading line (asks command)
  pub needs : NeedsProof state.sheet command
  pub told : IsToldSpentWhole state.budget state.sheet counts

-- the line asks a formula, for whose answer they are the numbers
pub record TellsOfAsking (state : State) (line : List ℕ) (counts : Counts) : Type 0 where
  pub command : Asked
  pub formula : Statement
  pub reading : IsCommandReading line (asks command)
  pub needs : NeedsAnswer state.sheet command formula
  pub told : IsToldSpentAsking state.budget state.sheet formula counts

-- the text reads as a sheet, of whose load they are the numbers
pub record TellsOfLoad (budget : ℕ) (text : List ℕ) (counts : Counts) : Type 0 where
  pub sheet : Sheet
  pub reads : ReadsAs text sheet
  pub told : IsToldSpent budget sheet None counts

-- so it is of each spent line and each spent sheet that a run tells of
pub record ToldCountsAreBounded : Type 0 where
  pub of_edit : (state : State) (line : List ℕ) (counts : Counts) (old new : Notes) → IsWellFormed state.sheet → LineSpends state line counts old new → TellsOfEdit state line counts
  pub of_proof : (state : State) (line : List ℕ) (counts : Counts) (old new : Notes) → LineProofSpends state line counts old new → TellsOfProof state line counts
  pub of_asking : (state : State) (line : List ℕ) (counts : Counts) (old new : Notes) → LineAskSpends state line counts old new → TellsOfAsking state line counts
  pub of_load : (budget : ℕ) (text : List ℕ) (counts : Counts) (more : List ℕ) (old new : Notes) → RefusesText budget text (of_whole (Spent counts)) more old new → TellsOfLoad budget text counts
