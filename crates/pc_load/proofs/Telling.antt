-- What a refusal for names and sorts tells.
use Rattle.std.proofs.Common.{ℕ, List, Some, sym, subst}
use Rattle.pc_elaborate.specs.declared.fault.SortFault.{SortFault}
use Rattle.pc_elaborate.specs.declared.fault.SortFault.TheVariants as sort_fault
use Rattle.pc_elaborate.specs.Told.{IsFaultOf}
use Rattle.pc_refusals.specs.declared.refusal.Refusal.{Refusal}
use Rattle.pc_refusals.specs.declared.refusal.Refusal.TheVariants.{NotUtf8, Syntax, NoBegin, WrongVersion, UnknownName, DuplicateName, WrongArity, WrongSort, NotAValue, EmptySort, Limit, TooLarge, Inconsistent, Spent, NoEntry, DuplicateRule, NoRule, TooManySets, TooDeep}
use Rattle.pc_load.specs.Refusals.{IsSortRefusal}
use Rattle.pc_load.specs.Outcome.{HasSortFault, IsFaultAt}

-- what is refused is a fault, and no want of memory
pub fails : (Fails : SortFault → Type 0) (e : SortFault) (refusal : Refusal) → IsSortRefusal e refusal → IsFaultOf Fails e → Fails e
fails Fails e UnknownName tells is = subst Fails (sym tells) (subst (IsFaultOf Fails) tells is)
fails Fails e DuplicateName tells is = subst Fails (sym tells) (subst (IsFaultOf Fails) tells is)
fails Fails e WrongArity tells is = subst Fails (sym tells) (subst (IsFaultOf Fails) tells is)
fails Fails e WrongSort tells is = subst Fails (sym tells) (subst (IsFaultOf Fails) tells is)
fails Fails e NotAValue tells is = subst Fails (sym tells) (subst (IsFaultOf Fails) tells is)
fails Fails e EmptySort tells is = subst Fails (sym tells) (subst (IsFaultOf Fails) tells is)
fails Fails e (Limit word) tells is = subst Fails (sym tells) (subst (IsFaultOf Fails) tells is)
fails Fails e NotUtf8 tells is = absurd tells
fails Fails e Syntax tells is = absurd tells
fails Fails e NoBegin tells is = absurd tells
fails Fails e WrongVersion tells is = absurd tells
fails Fails e TooLarge tells is = absurd tells
fails Fails e Inconsistent tells is = absurd tells
fails Fails e (Spent counts) tells is = absurd tells
fails Fails e NoEntry tells is = absurd tells
fails Fails e DuplicateRule tells is = absurd tells
fails Fails e NoRule tells is = absurd tells
fails Fails e TooManySets tells is = absurd tells
fails Fails e TooDeep tells is = absurd tells

-- the text has the refusal of its fault
pub is_fault : (text : List ℕ) (line : ℕ) (e : SortFault) (refusal : Refusal) → IsSortRefusal e refusal → HasSortFault text line e → IsFaultAt text refusal (Some line)
is_fault text line e UnknownName tells is = (e, is, tells)
is_fault text line e DuplicateName tells is = (e, is, tells)
is_fault text line e WrongArity tells is = (e, is, tells)
is_fault text line e WrongSort tells is = (e, is, tells)
is_fault text line e NotAValue tells is = (e, is, tells)
is_fault text line e EmptySort tells is = (e, is, tells)
is_fault text line e (Limit word) tells is = (e, is, tells)
is_fault text line e NotUtf8 tells is = absurd tells
is_fault text line e Syntax tells is = absurd tells
is_fault text line e NoBegin tells is = absurd tells
is_fault text line e WrongVersion tells is = absurd tells
is_fault text line e TooLarge tells is = absurd tells
is_fault text line e Inconsistent tells is = absurd tells
is_fault text line e (Spent counts) tells is = absurd tells
is_fault text line e NoEntry tells is = absurd tells
is_fault text line e DuplicateRule tells is = absurd tells
is_fault text line e NoRule tells is = absurd tells
is_fault text line e TooManySets tells is = absurd tells
is_fault text line e TooDeep tells is = absurd tells

pub of_fault : (Fails : SortFault → Type 0) (e : SortFault) → Fails e → IsFaultOf Fails e
of_fault Fails sort_fault.UnknownName is = is
of_fault Fails sort_fault.DuplicateName is = is
of_fault Fails sort_fault.WrongArity is = is
of_fault Fails sort_fault.WrongSort is = is
of_fault Fails sort_fault.NotAValue is = is
of_fault Fails sort_fault.EmptySort is = is
of_fault Fails (sort_fault.Limit limited) is = is
of_fault Fails sort_fault.Memory is = tt
