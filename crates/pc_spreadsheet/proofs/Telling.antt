-- What a fault of a command's names or sorts tells.
use Rattle.std.proofs.Common.{◌≡◌, ◌<◌, [], length, sym, subst, refl, arith, inl, inr}
use Rattle.std.proofs.lemmas.Bool.{cases_lt}
use Rattle.pc_syntax.specs.Tree.{Asked, Formula}
use Rattle.pc_sheet.specs.Sheet.{Sheet}
use Rattle.pc_elaborate.specs.declared.fault.SortFault.{SortFault}
use Rattle.pc_elaborate.specs.declared.fault.SortFault.TheVariants as sort_fault
use Rattle.pc_sheet.specs.declared.limits.Limited.TheVariants.{Rules}
use Rattle.pc_elaborate.specs.FormulaFaults.{IsSortedFormula}
use Rattle.pc_elaborate.specs.Tests.{no_test}
use Rattle.pc_elaborate.specs.Told.{IsFaultOf}
use Rattle.pc_sortcheck.specs.DeclarationFaults.{IsRuleFault}
use Rattle.pc_load.proofs.Telling.{fails}
use Rattle.pc_spreadsheet.specs.Refused.{IsAskedFault, by_fault}
use Rattle.pc_spreadsheet.specs.Tasks.{State}
use Rattle.pc_spreadsheet.specs.Allowed.{Notes}
use Rattle.pc_spreadsheet.specs.Commands.{Told, IsToldAs, as_refusal, as_memory, MayWantMemory, Obeys, judged, Explains, by_refusal}

-- a command with a fault, of which the state's sheet is the book
pub refused_in : (old : State × Notes) (book : Sheet) (a : Asked) (e : SortFault) (reply : Told) → old.0.sheet ≡ book → MayWantMemory old.0.sheet a → IsFaultOf (IsAskedFault book a) e → IsToldAs e reply → Obeys old a reply old
refused_in old book a e reply same may is (as_refusal why tells) =
    judged (by_fault e (fails (IsAskedFault old.0.sheet a) e why tells (subst (λ (s : Sheet). IsFaultOf (IsAskedFault s a) e) (sym same) is)) tells) refl refl
refused_in old book a e reply same may is (as_memory lacks) = (may, refl)

-- of a command whose faults are no want of memory
pub refused_for : (old : State × Notes) (book : Sheet) (a : Asked) (e : SortFault) (reply : Told) → old.0.sheet ≡ book → ¬ IsAskedFault book a sort_fault.Memory → IsAskedFault book a e → IsToldAs e reply → Obeys old a reply old
refused_for old book a e reply same ample is (as_refusal why tells) = judged (by_fault e (subst (λ (s : Sheet). IsAskedFault s a e) (sym same) is) tells) refl refl
refused_for old book a e reply same ample is (as_memory lacks) = absurd (ample (subst (IsAskedFault book a) lacks is))

-- a question with a fault
pub not_explained : (book : Sheet) (a : Asked) (e : SortFault) (reply : Told) → ¬ IsAskedFault book a sort_fault.Memory → IsAskedFault book a e → IsToldAs e reply → Explains book a reply
not_explained book a e reply ample is (as_refusal why tells) = by_refusal why (by_fault e is tells)
not_explained book a e reply ample is (as_memory lacks) = absurd (ample (subst (IsAskedFault book a) lacks is))

-- ---- a rule without faults

pub below_limit : (sheet : Sheet) (f : Formula) → IsSortedFormula sheet.universe [] f → ((e : SortFault) → ¬ IsRuleFault sheet f no_test e) → length sheet.rules < 1024
below_limit sheet f sorted none = elim (cases_lt (length sheet.rules) 1024) [
  | inl lt ↦ lt
  | inr le ↦ absurd (none (sort_fault.Limit Rules) (inr (sorted, inl (λ lt. omega (arith, lt, le), refl))))
]
