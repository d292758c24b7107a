-- How faults of names and sorts are told.
use Rattle.std.specs.Prelude.{◌≡◌}
use Rattle.pc_elaborate.specs.declared.fault.SortFault.{SortFault}
use Rattle.pc_elaborate.specs.declared.fault.SortFault.TheVariants as fault
use Rattle.pc_refusals.specs.declared.refusal.Refusal.{Refusal}
use Rattle.pc_refusals.specs.declared.refusal.Refusal.TheVariants.{UnknownName, DuplicateName, WrongArity, WrongSort, NotAValue, EmptySort, Limit}

-- the refusal tells this fault of names or sorts
abbrev pub IsSortRefusal : SortFault → Refusal → Type 0
IsSortRefusal e UnknownName = e ≡ fault.UnknownName
IsSortRefusal e DuplicateName = e ≡ fault.DuplicateName
IsSortRefusal e WrongArity = e ≡ fault.WrongArity
IsSortRefusal e WrongSort = e ≡ fault.WrongSort
IsSortRefusal e NotAValue = e ≡ fault.NotAValue
IsSortRefusal e EmptySort = e ≡ fault.EmptySort
IsSortRefusal e (Limit limited) = e ≡ fault.Limit limited
IsSortRefusal e refusal = ⊥

-- the refusal tells the first of these faults
abbrev pub IsRefusalFor : (SortFault → Type 0) → Refusal → Type 0
IsRefusalFor Fails refusal = (e : SortFault) × Fails e × IsSortRefusal e refusal
