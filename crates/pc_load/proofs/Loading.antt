-- What reading and checking a sheet's text show of its book.
use Rattle.std.proofs.Common.{◌≡◌, ℕ, List, Result, Ok, Err, MatchResult, sym, ap, subst}
use Rattle.pc_syntax.specs.Tree.{Declared}
use Rattle.pc_syntax.specs.declared.tree.SheetFault.{SheetFault}
use Rattle.pc_syntax.specs.declared.tree.SheetFault.TheVariants as sheet_fault
use Rattle.pc_syntax.specs.Sheet.{IsSheet}
use Rattle.pc_syntax.specs.Told.{IsSheetTold}
use Rattle.pc_sheet.specs.Sheet.{Sheet}
use Rattle.pc_elaborate.specs.declared.fault.SortFault.{SortFault}
use Rattle.pc_elaborate.specs.Told.{IsFaultOf}
use Rattle.pc_sortcheck.specs.Declaring.{ReadsAs}
use Rattle.pc_sortcheck.specs.DeclarationFaults.{IsSheetFault}
use Rattle.pc_refusals.specs.declared.refusal.LoadFault.{LoadFault}
use Rattle.pc_refusals.specs.declared.refusal.LoadFault.TheVariants as load_fault
use Rattle.pc_refusals.specs.declared.refusal.SheetRefusal.{SheetRefusal}
use Rattle.pc_refusals.specs.Refusals.{RefusesBy}
use Rattle.pc_load.specs.Outcome.{HasFault, IsFaultAt, Outcome, reads, fails}
use Rattle.pc_load.specs.Laws.{TextsHaveOneOutcome}
use Rattle.pc_load.specs.inside.Loading.{load_fault_of, IsSortFaultTold}
use Rattle.pc_load.proofs.Telling.{fails as of_refusal, is_fault}

-- the fault of a text
pub text_fault : (text : List ℕ) (fault : SheetFault) → IsSheetTold text (Err fault) → RefusesBy (HasFault text) (load_fault_of fault)
text_fault text (sheet_fault.NotUtf8 line) told = told
text_fault text (sheet_fault.Syntax line) told = told
text_fault text sheet_fault.NoBegin told = told
text_fault text (sheet_fault.WrongVersion line) told = told
text_fault text (sheet_fault.TooDeep line) told = told
text_fault text sheet_fault.Memory told = tt

-- the first declaration at fault
pub sort_fault : (text : List ℕ) (ds : List (ℕ × Declared)) (line : ℕ) (e : SortFault) (told : LoadFault) → IsSheet text ds → IsFaultOf (IsSheetFault ds line) e → IsSortFaultTold line e told → RefusesBy (HasFault text) told
sort_fault text ds line e (load_fault.Refused why) is fault told =
    let refused = is_fault text line e why.refusal told.0 record { declared = ds; is = is; fails = of_refusal (IsSheetFault ds line) e why.refusal told.0 fault } in
    subst (IsFaultAt text why.refusal) (sym told.1) refused
sort_fault text ds line e load_fault.Memory is fault told = tt

-- ---- no sheet is read from a text at fault

abbrev Reads : Outcome → Type 0
Reads (reads sheet) = Unit {0}
Reads (fails why) = ⊥

pub none_read : (text : List ℕ) (why : SheetRefusal) → TextsHaveOneOutcome → HasFault text why → (sheet : Sheet) → ¬ ReadsAs text sheet
none_read text why one fault sheet = λ read. subst Reads (one text (reads sheet) (fails why) read fault) tt

pub none_with : (text : List ℕ) (result : Result Sheet LoadFault) → TextsHaveOneOutcome → MatchResult result (ReadsAs text) (RefusesBy (HasFault text))
    → MatchResult result (ReadsAs text) (RefusesBy (λ why. HasFault text why × ((sheet : Sheet) → ¬ ReadsAs text sheet)))
none_with text (Ok book) one told = told
none_with text (Err (load_fault.Refused why)) one told = (told, none_read text why one told)
none_with text (Err load_fault.Memory) one told = tt

-- ---- what is read, and what is at fault, is one

abbrev sheet_in : Sheet → Outcome → Sheet
sheet_in other (reads sheet) = sheet
sheet_in other (fails why) = other

abbrev fault_in : SheetRefusal → Outcome → SheetRefusal
fault_in other (reads sheet) = other
fault_in other (fails why) = why

pub one_sheet : (text : List ℕ) (s t : Sheet) → TextsHaveOneOutcome → ReadsAs text s → ReadsAs text t → s ≡ t
one_sheet text s t one first second = ap (sheet_in s) (one text (reads s) (reads t) first second)

pub one_fault : (text : List ℕ) (q r : SheetRefusal) → TextsHaveOneOutcome → HasFault text q → HasFault text r → q ≡ r
one_fault text q r one first second = ap (fault_in q) (one text (fails q) (fails r) first second)
