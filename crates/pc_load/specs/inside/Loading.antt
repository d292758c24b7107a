-- How the faults of a sheet's text are told.
use Rattle.std.specs.Prelude.{◌≡◌, ℕ}
use Rattle.std.specs.declared.option.Option.{Option}
use Rattle.std.specs.declared.option.Option.TheVariants.{Some, None}
use Rattle.pc_syntax.specs.declared.tree.SheetFault.{SheetFault}
use Rattle.pc_syntax.specs.declared.tree.SheetFault.TheVariants as sheet_fault
use Rattle.pc_elaborate.specs.declared.fault.SortFault.{SortFault}
use Rattle.pc_elaborate.specs.declared.fault.SortFault.TheVariants as sort_fault
use Rattle.pc_refusals.specs.declared.refusal.LoadFault.{LoadFault}
use Rattle.pc_refusals.specs.declared.refusal.LoadFault.TheVariants as load_fault
use Rattle.pc_refusals.specs.declared.refusal.Refusal.{Refusal}
use Rattle.pc_refusals.specs.declared.refusal.Refusal.TheVariants.{NotUtf8, Syntax, NoBegin, WrongVersion, TooDeep}
use Rattle.pc_load.specs.Refusals.{IsSortRefusal}

-- the text is refused so, for the line if one is given
abbrev pub refused_for : Refusal → Option ℕ → LoadFault
refused_for refusal line = load_fault.Refused (record { refusal = refusal; line = line })

-- how the fault of a text is told
abbrev pub load_fault_of : SheetFault → LoadFault
load_fault_of (sheet_fault.NotUtf8 line) = refused_for NotUtf8 (Some line)
load_fault_of (sheet_fault.Syntax line) = refused_for Syntax (Some line)
load_fault_of sheet_fault.NoBegin = refused_for NoBegin None
load_fault_of (sheet_fault.WrongVersion line) = refused_for WrongVersion (Some line)
load_fault_of (sheet_fault.TooDeep line) = refused_for TooDeep (Some line)
load_fault_of sheet_fault.Memory = load_fault.Memory

-- the line's fault of names or sorts is told so
abbrev pub IsSortFaultTold : ℕ → SortFault → LoadFault → Type 0
IsSortFaultTold line e (load_fault.Refused why) = IsSortRefusal e why.refusal × (why.line ≡ Some line)
IsSortFaultTold line e load_fault.Memory = e ≡ sort_fault.Memory
