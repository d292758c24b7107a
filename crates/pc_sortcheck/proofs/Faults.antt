-- Faults of trees, told by a check that needs no memory.
use Rattle.std.proofs.Common.{◌≡◌, sym, subst}
use Rattle.pc_elaborate.specs.Told.{IsFaultOf}
use Rattle.pc_elaborate.specs.declared.fault.SortFault.{SortFault}
use Rattle.pc_elaborate.specs.declared.fault.SortFault.TheVariants.{UnknownName, DuplicateName, WrongArity, WrongSort, NotAValue, EmptySort, Limit, Memory}

pub fault_of : (Fails : SortFault → Type 0) (e : SortFault) → Fails e → IsFaultOf Fails e
fault_of Fails UnknownName h = h
fault_of Fails DuplicateName h = h
fault_of Fails WrongArity h = h
fault_of Fails WrongSort h = h
fault_of Fails NotAValue h = h
fault_of Fails EmptySort h = h
fault_of Fails (Limit which) h = h
fault_of Fails Memory h = tt

-- the fault that a `?` hands on
pub handed_on : (Fails : SortFault → Type 0) (e f : SortFault) → f ≡ e → Fails e → IsFaultOf Fails f
handed_on Fails e f is h = fault_of Fails f (subst Fails (sym is) h)

pub weaker : (Fails Weaker : SortFault → Type 0) → ((e : SortFault) → Fails e → Weaker e) → (e : SortFault) → IsFaultOf Fails e → IsFaultOf Weaker e
weaker Fails Weaker f UnknownName h = f UnknownName h
weaker Fails Weaker f DuplicateName h = f DuplicateName h
weaker Fails Weaker f WrongArity h = f WrongArity h
weaker Fails Weaker f WrongSort h = f WrongSort h
weaker Fails Weaker f NotAValue h = f NotAValue h
weaker Fails Weaker f EmptySort h = f EmptySort h
weaker Fails Weaker f (Limit which) h = f (Limit which) h
weaker Fails Weaker f Memory h = tt
