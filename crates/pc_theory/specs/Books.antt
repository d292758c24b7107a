-- What is found of a whole sheet, and why nothing is.
use Rattle.std.specs.Prelude.{◌≡◌, ℕ, ◌+◌, ◌<◌, ◌≤◌, List, None, Some, Contains}
use Rattle.std.specs.List.{AllZip}
use Rattle.pc_sheet.specs.Limits.{most_weight}
use Rattle.pc_sheet.specs.Sheet.{Sheet}
use Rattle.pc_sheet.specs.Weight.{weight}
use Rattle.pc_sheet.specs.MaximalSets.{AreRulesConsistent}
use Rattle.pc_sheet.specs.declared.ids.Target.{Target}
use Rattle.pc_sheet.specs.declared.ids.ValueId.{ValueId}
use Rattle.pc_ground.specs.Naming.{names_of}
use Rattle.pc_ground.specs.declared.ground.GroundFault.{GroundFault}
use Rattle.pc_ground.specs.declared.ground.GroundFault.TheVariants as ground
use Rattle.pc_parts.specs.Components.{parts_of}
use Rattle.pc_components.specs.View.{Kept}
use Rattle.pc_reason.specs.Reasons.{Justification}
use Rattle.pc_reason.specs.Targets.{IsTargetIn}
use Rattle.pc_reason.specs.Refutations.{RefutesRules}
use Rattle.pc_justify_laws.specs.Reasons.{IsRowFor}
use Rattle.pc_cache.specs.Rows.{TargetRow, row_after}
use Rattle.pc_world_list.specs.Worlds.{WorldView}
use Rattle.pc_search.specs.Found.{steps_in}
use Rattle.pc_search.specs.Parts.{AreWorldsOf}
use Rattle.pc_reason.specs.Fitting.{IsFitting}
use Rattle.pc_theory.specs.Theories.{rules_alone, TheoryView, IsTheory}
use Rattle.pc_theory.specs.Spendings.{IsSpendingOf, IsLawful, LearnsWithin}
use Rattle.pc_theory.specs.declared.spending.Spending.{Spending}
use Rattle.pc_theory.specs.declared.book.Fault.{Fault}
use Rattle.pc_theory.specs.declared.book.Fault.TheVariants as fault
use Rattle.pc_theory.specs.declared.book.PartFault.{PartFault}
use Rattle.pc_theory.specs.declared.book.PartFault.TheVariants as part

-- The assignment fits, each part has its worlds, and the changes give each target its row. No row has more steps than clauses were
-- learned and calls made.
pub record IsFoundIn (sheet : Sheet) (kept : Kept) (budget : ℕ) (base : List ValueId) (worlds : List (List WorldView)) (changes : List TargetRow) (s : Spending) : Type 0 where
  pub base_is : IsFitting sheet base
  pub worlds_of : AllZip (AreWorldsOf sheet) (parts_of (rules_alone sheet)) worlds
  pub answered : (t : Target) → IsTargetIn sheet.universe t → IsRowFor sheet t (row_after changes t None)
  pub few_steps : (t : Target) (k : Justification) → row_after changes t None ≡ Some k → steps_in k.lines ≤ s.tally.learned + s.tally.calls
  pub targets : (r : TargetRow) → Contains changes r → IsTargetIn sheet.universe r.target
  pub limit : s.tally.limit ≡ budget
  pub spends : IsSpendingOf sheet None s
  pub spare : LearnsWithin s.tally

pub record AreFound (sheet : Sheet) (budget : ℕ) (theory : TheoryView) (worlds : List (List WorldView)) (changes : List TargetRow) (s : Spending) : Type 0 where
  pub theory_is : IsTheory (rules_alone sheet) theory
  pub found : IsFoundIn sheet theory.components budget theory.base worlds changes s

-- each with its cause; but for the first, the sheet isn't too large
abbrev pub IsCause : Sheet → ℕ → Fault → Type 0
IsCause sheet budget fault.TooLarge = most_weight < weight sheet
IsCause sheet budget (fault.Inconsistent d) = (weight sheet ≤ most_weight) × RefutesRules sheet d.names d.log d.span × (¬ AreRulesConsistent sheet)
IsCause sheet budget (fault.Spent s) = (weight sheet ≤ most_weight) × IsLawful sheet None budget s
IsCause sheet budget fault.Memory = Unit {0}

-- of a sheet that isn't too large
abbrev pub IsPartCause : Sheet → ℕ → PartFault → Type 0
IsPartCause sheet budget (part.Inconsistent log span) = RefutesRules sheet (names_of sheet) log span
IsPartCause sheet budget (part.Spent s) = IsLawful sheet None budget s
IsPartCause sheet budget part.Memory = Unit {0}

-- the same of a book that isn't grounded
abbrev pub fault_of : GroundFault → Fault
fault_of ground.TooLarge = fault.TooLarge
fault_of ground.Memory = fault.Memory
