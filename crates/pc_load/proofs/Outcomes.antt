-- That a sheet's text has one outcome at most.
use Rattle.std.proofs.Common.{◌≡◌, ℕ, List, Option, Some, None, Ok, Err, refl, sym, ap, ap₂, subst, ◌∙◌}
use Rattle.pc_syntax.specs.Fault.{Fault, not_utf8, too_deep, syntax, wrong_version}
use Rattle.pc_syntax.specs.Tree.{Declared}
use Rattle.pc_syntax.specs.Sheet.{SheetReading, sheet, fault_at, no_begin, IsSheetReading}
use Rattle.pc_sheet.specs.Sheet.{Sheet}
use Rattle.pc_elaborate.specs.declared.fault.SortFault.{SortFault}
use Rattle.pc_elaborate.specs.Laws.{TreesHaveOneOutcome}
use Rattle.pc_sortcheck.specs.Declaring.{IsSheetOf}
use Rattle.pc_sortcheck.specs.DeclarationFaults.{IsSheetFault}
use Rattle.pc_sortcheck.proofs.SheetOutcomes.{only_sheet, only_fault}
use Rattle.pc_refusals.specs.declared.refusal.Refusal.{Refusal}
use Rattle.pc_refusals.specs.declared.refusal.Refusal.TheVariants.{NotUtf8, Syntax, NoBegin, WrongVersion, UnknownName, DuplicateName, WrongArity, WrongSort, NotAValue, EmptySort, Limit, TooLarge, Inconsistent, Spent, NoEntry, DuplicateRule, NoRule, TooManySets, TooDeep}
use Rattle.pc_refusals.specs.declared.refusal.SheetRefusal.{SheetRefusal}
use Rattle.pc_load.specs.Refusals.{IsSortRefusal, IsRefusalFor}
use Rattle.pc_load.specs.Outcome.{HasSortFault, IsFaultAt, Outcome, reads, fails, IsOutcome}
use Rattle.pc_load.specs.Laws.{TextsHaveOneOutcome}
use Rattle.pc_load.proofs.OneRefusal.{one_refusal}
use Rattle.pc_load.proofs.Telling.{fails as of_refusal, of_fault}

abbrev refusal_at : Refusal → Option ℕ → SheetRefusal
refusal_at refusal line = record { refusal = refusal; line = line }

-- what declarations give
data Kind (ds : List (ℕ × Declared)) : Outcome → Type 0 where
  by_fault : (line : ℕ) (e : SortFault) (why : Refusal) → IsSheetFault ds line e → IsSortRefusal e why → Kind ds (fails (refusal_at why (Some line)))
  by_sheet : (found : Sheet) → IsSheetOf ds found → Kind ds (reads found)

module _ (trees : TreesHaveOneOutcome) (ds : List (ℕ × Declared)) where
  sheet_is : (found other : Sheet) → IsSheetOf ds found → IsSheetOf ds other → found ≡ other
  sheet_is found other first second = only_sheet trees ds (Ok other) second found first

  no_fault : (found : Sheet) → IsSheetOf ds found → (line : ℕ) (e : SortFault) → ¬ IsSheetFault ds line e
  no_fault found of line e is = only_fault trees ds (Ok found) of line e is

  fault_is : (l m : ℕ) (e f : SortFault) (why : Refusal) → IsSortRefusal e why → IsSheetFault ds l e → IsSheetFault ds m f → (e ≡ f) × (l ≡ m)
  fault_is l m e f why tells first second =
      of_refusal (λ g. (g ≡ f) × (l ≡ m)) e why tells (only_fault trees ds (Err (record { line = l; fault = e })) (of_fault (IsSheetFault ds l) e first) m f second)

  same_fault : (l m : ℕ) (e f : SortFault) (q r : Refusal) → IsSheetFault ds l e → IsSheetFault ds m f → IsSortRefusal e q → IsSortRefusal f r → refusal_at q (Some l) ≡ refusal_at r (Some m)
  same_fault l m e f q r first second tells telling =
      let same = fault_is l m e f q tells first second in
      ap₂ refusal_at (one_refusal f q r (subst (λ (g : SortFault). IsSortRefusal g q) same.0 tells) telling) (ap (λ (n : ℕ). Some n) same.1)

  same_kind : {x y : Outcome} → Kind ds x → Kind ds y → x ≡ y
  same_kind (by_fault l e q first tells) (by_fault m f r second telling) = ap fails (same_fault l m e f q r first second tells telling)
  same_kind (by_fault l e q first tells) (by_sheet found of) = absurd (no_fault found of l e first)
  same_kind (by_sheet found of) (by_fault m f r second telling) = absurd (no_fault found of m f second)
  same_kind (by_sheet found of) (by_sheet other of') = ap reads (sheet_is found other of of')

-- ---- a text

abbrev text_refusal : Fault → Refusal
text_refusal not_utf8 = NotUtf8
text_refusal too_deep = TooDeep
text_refusal syntax = Syntax
text_refusal wrong_version = WrongVersion

-- what a reading gives
abbrev IsGiven : SheetReading → Outcome → Type 0
IsGiven (sheet ds) outcome = Kind ds outcome
IsGiven (fault_at line e) outcome = outcome ≡ fails (refusal_at (text_refusal e) (Some line))
IsGiven no_begin outcome = outcome ≡ fails (refusal_at NoBegin None)

record Given (text : List ℕ) (outcome : Outcome) : Type 0 where
  reading : SheetReading
  is : IsSheetReading text reading
  given : IsGiven reading outcome

at_fault : (text : List ℕ) (line : ℕ) (e : Fault) → IsSheetReading text (fault_at line e) → Given text (fails (refusal_at (text_refusal e) (Some line)))
at_fault text line e is = record { reading = fault_at line e; is = is; given = refl }

at_sort : (text : List ℕ) (line : ℕ) (why : Refusal) → IsRefusalFor (HasSortFault text line) why → Given text (fails (refusal_at why (Some line)))
at_sort text line why has = record { reading = sheet has.1.declared; is = has.1.is; given = by_fault line has.0 why has.1.fails has.2 }

given_fault : (text : List ℕ) (why : Refusal) (line : Option ℕ) → IsFaultAt text why line → Given text (fails (refusal_at why line))
given_fault text NotUtf8 (Some line) has = at_fault text line not_utf8 has
given_fault text Syntax (Some line) has = at_fault text line syntax has
given_fault text WrongVersion (Some line) has = at_fault text line wrong_version has
given_fault text TooDeep (Some line) has = at_fault text line too_deep has
given_fault text NoBegin (Some line) has = at_sort text line NoBegin has
given_fault text UnknownName (Some line) has = at_sort text line UnknownName has
given_fault text DuplicateName (Some line) has = at_sort text line DuplicateName has
given_fault text WrongArity (Some line) has = at_sort text line WrongArity has
given_fault text WrongSort (Some line) has = at_sort text line WrongSort has
given_fault text NotAValue (Some line) has = at_sort text line NotAValue has
given_fault text EmptySort (Some line) has = at_sort text line EmptySort has
given_fault text (Limit word) (Some line) has = at_sort text line (Limit word) has
given_fault text TooLarge (Some line) has = at_sort text line TooLarge has
given_fault text Inconsistent (Some line) has = at_sort text line Inconsistent has
given_fault text (Spent counts) (Some line) has = at_sort text line (Spent counts) has
given_fault text NoEntry (Some line) has = at_sort text line NoEntry has
given_fault text DuplicateRule (Some line) has = at_sort text line DuplicateRule has
given_fault text NoRule (Some line) has = at_sort text line NoRule has
given_fault text TooManySets (Some line) has = at_sort text line TooManySets has
given_fault text NoBegin None has = record { reading = no_begin; is = has; given = refl }
given_fault text NotUtf8 None has = absurd has
given_fault text Syntax None has = absurd has
given_fault text WrongVersion None has = absurd has
given_fault text TooDeep None has = absurd has
given_fault text UnknownName None has = absurd has
given_fault text DuplicateName None has = absurd has
given_fault text WrongArity None has = absurd has
given_fault text WrongSort None has = absurd has
given_fault text NotAValue None has = absurd has
given_fault text EmptySort None has = absurd has
given_fault text (Limit word) None has = absurd has
given_fault text TooLarge None has = absurd has
given_fault text Inconsistent None has = absurd has
given_fault text (Spent counts) None has = absurd has
given_fault text NoEntry None has = absurd has
given_fault text DuplicateRule None has = absurd has
given_fault text NoRule None has = absurd has
given_fault text TooManySets None has = absurd has

given : (text : List ℕ) (outcome : Outcome) → IsOutcome text outcome → Given text outcome
given text (reads found) is = record { reading = sheet is.declared; is = is.is; given = by_sheet found is.gives }
given text (fails why) is = given_fault text why.refusal why.line is

same_given : TreesHaveOneOutcome → (r : SheetReading) (x y : Outcome) → IsGiven r x → IsGiven r y → x ≡ y
same_given trees (sheet ds) x y first second = same_kind trees ds first second
same_given trees (fault_at line e) x y first second = first ∙ sym second
same_given trees no_begin x y first second = first ∙ sym second

pub one_outcome : ((text : List ℕ) (q r : SheetReading) → IsSheetReading text q → IsSheetReading text r → q ≡ r) → TreesHaveOneOutcome → TextsHaveOneOutcome
one_outcome readings trees = λ text. λ x. λ y. λ first. λ second.
    let one = given text x first in
    let other = given text y second in
    let same : one.reading ≡ other.reading = readings text one.reading other.reading one.is other.is in
    same_given trees other.reading x y (subst (λ (r : SheetReading). IsGiven r x) same one.given) other.given
