-- What a sheet's text gives: the sheet that it reads as, or its first fault.
use Rattle.std.specs.Prelude.{ℕ, List}
use Rattle.std.specs.declared.option.Option.{Option}
use Rattle.std.specs.declared.option.Option.TheVariants.{Some, None}
use Rattle.pc_syntax.specs.Tree.{Declared}
use Rattle.pc_syntax.specs.Fault.{not_utf8, too_deep, syntax, wrong_version}
use Rattle.pc_syntax.specs.Sheet.{IsSheet, IsSheetReading, fault_at, no_begin}
use Rattle.pc_sheet.specs.Sheet.{Sheet}
use Rattle.pc_elaborate.specs.declared.fault.SortFault.{SortFault}
use Rattle.pc_sortcheck.specs.Declaring.{ReadsAs}
use Rattle.pc_sortcheck.specs.DeclarationFaults.{IsSheetFault}
use Rattle.pc_refusals.specs.declared.refusal.SheetRefusal.{SheetRefusal}
use Rattle.pc_refusals.specs.declared.refusal.Refusal.{Refusal}
use Rattle.pc_refusals.specs.declared.refusal.Refusal.TheVariants.{NotUtf8, Syntax, NoBegin, WrongVersion, TooDeep}
use Rattle.pc_load.specs.Refusals.{IsRefusalFor}

-- the text is declarations, and that of this line is the first with a fault of names or sorts
pub record HasSortFault (text : List ℕ) (line : ℕ) (e : SortFault) : Type 0 where
  pub declared : List (ℕ × Declared)
  pub is : IsSheet text declared
  pub fails : IsSheetFault declared line e

-- this tells the first fault of the text, for its line if one is given
abbrev pub IsFaultAt : List ℕ → Refusal → Option ℕ → Type 0
IsFaultAt text NotUtf8 (Some line) = IsSheetReading text (fault_at line not_utf8)
IsFaultAt text Syntax (Some line) = IsSheetReading text (fault_at line syntax)
IsFaultAt text WrongVersion (Some line) = IsSheetReading text (fault_at line wrong_version)
IsFaultAt text TooDeep (Some line) = IsSheetReading text (fault_at line too_deep)
IsFaultAt text refusal (Some line) = IsRefusalFor (HasSortFault text line) refusal
IsFaultAt text NoBegin None = IsSheetReading text no_begin
IsFaultAt text refusal None = ⊥

-- the text has this fault first, of text or of names and sorts
abbrev pub HasFault : List ℕ → SheetRefusal → Type 0
HasFault text why = IsFaultAt text why.refusal why.line

-- what a text gives
pub data Outcome : Type 0 where
  reads : Sheet → Outcome
  fails : SheetRefusal → Outcome

abbrev pub IsOutcome : List ℕ → Outcome → Type 0
IsOutcome text (reads sheet) = ReadsAs text sheet
IsOutcome text (fails why) = HasFault text why
