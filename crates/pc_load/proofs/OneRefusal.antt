-- That a refusal tells one fault, and a fault has one refusal.
use Rattle.std.proofs.Common.{◌≡◌, Option, Some, None, sym, ap, ◌∙◌}
use Rattle.pc_elaborate.specs.declared.fault.SortFault.{SortFault}
use Rattle.pc_elaborate.specs.declared.fault.SortFault.TheVariants as fault
use Rattle.pc_refusals.specs.declared.refusal.Refusal.{Refusal}
use Rattle.pc_refusals.specs.declared.refusal.Refusal.TheVariants.{NotUtf8, Syntax, NoBegin, WrongVersion, UnknownName, DuplicateName, WrongArity, WrongSort, NotAValue, EmptySort, Limit, TooLarge, Inconsistent, Spent, NoEntry, DuplicateRule, NoRule, TooManySets, TooDeep}
use Rattle.pc_load.specs.Refusals.{IsSortRefusal}

abbrev refusal_of : SortFault → Option Refusal
refusal_of fault.UnknownName = Some UnknownName
refusal_of fault.DuplicateName = Some DuplicateName
refusal_of fault.WrongArity = Some WrongArity
refusal_of fault.WrongSort = Some WrongSort
refusal_of fault.NotAValue = Some NotAValue
refusal_of fault.EmptySort = Some EmptySort
refusal_of (fault.Limit limited) = Some (Limit limited)
refusal_of fault.Memory = None

told : (e : SortFault) (refusal : Refusal) → IsSortRefusal e refusal → refusal_of e ≡ Some refusal
told e UnknownName is = ap refusal_of is
told e DuplicateName is = ap refusal_of is
told e WrongArity is = ap refusal_of is
told e WrongSort is = ap refusal_of is
told e NotAValue is = ap refusal_of is
told e EmptySort is = ap refusal_of is
told e (Limit limited) is = ap refusal_of is
told e NotUtf8 is = absurd is
told e Syntax is = absurd is
told e NoBegin is = absurd is
told e WrongVersion is = absurd is
told e TooLarge is = absurd is
told e Inconsistent is = absurd is
told e (Spent counts) is = absurd is
told e NoEntry is = absurd is
told e DuplicateRule is = absurd is
told e NoRule is = absurd is
told e TooManySets is = absurd is
told e TooDeep is = absurd is

pub some_is : (q r : Refusal) → Some q ≡ Some r → q ≡ r
some_is q r same = cc same

pub one_refusal : (e : SortFault) (q r : Refusal) → IsSortRefusal e q → IsSortRefusal e r → q ≡ r
one_refusal e q r first second = some_is q r (sym (told e q first) ∙ told e r second)
