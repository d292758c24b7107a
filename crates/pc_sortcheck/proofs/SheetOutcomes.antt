-- What is told of a sheet.
use Rattle.std.proofs.Common.{◌≡◌, ℕ, List, Result, Ok, Err, MatchResult, arith}
use Rattle.std.proofs.lemmas.List.Elements.{All-nil}
use Rattle.pc_name.specs.Names.{IsName}
use Rattle.pc_syntax.specs.Tree as tree
use Rattle.pc_sheet.specs.Sheet.{Sheet, Sort, empty_sheet}
use Rattle.pc_sheet.specs.WellFormed.{IsWellFormed, IsWellFormedTable, IsWellFormedFamily, IsWellFormedRule, IsEntryOf, AreWellFormedValues}
use Rattle.pc_elaborate.specs.declared.fault.SortFault.{SortFault}
use Rattle.pc_elaborate.specs.Told.{IsFaultOf, IsWantOfMemory}
use Rattle.pc_elaborate.specs.Laws.{TreesHaveOneOutcome}
use Rattle.pc_sortcheck.specs.Declaring.{IsSheetOf}
use Rattle.pc_sortcheck.specs.DeclarationFaults.{IsSheetFault}
use Rattle.pc_sortcheck.specs.declared.fault.SheetSortFault.{SheetSortFault}
use Rattle.pc_sortcheck.proofs.Faults.{weaker}
use Rattle.pc_sortcheck.proofs.SheetLaws.{all_one, all_never, all_same}

pub empty_formed : IsWellFormed empty_sheet
empty_formed = record {
  universe = record {
    named = All-nil IsName;
    different = λ i j d order l. absurd (omega arith);
    sort_limit = omega arith;
    sorts = All-nil (λ (s : Sort). AreWellFormedValues s.values);
    table_limit = omega arith;
    tables = All-nil (IsWellFormedTable empty_sheet.universe);
    row_limit = omega arith;
    family_limit = omega arith;
    families = All-nil (IsWellFormedFamily empty_sheet.universe);
    cell_limit = omega arith;
  };
  rules = record { limit = omega arith; each = All-nil (IsWellFormedRule empty_sheet.universe); different = λ i j d order l. absurd (omega arith) };
  entries = record { each = All-nil (IsEntryOf empty_sheet.universe); distinct = λ i j d order l. absurd (omega arith); few = λ c. omega arith };
}

module _ (trees : TreesHaveOneOutcome) (ds : List (ℕ × tree.Declared)) where
  abbrev Tells : Result Sheet SheetSortFault → Type 0
  Tells r = MatchResult r (IsSheetOf ds) (λ why. IsFaultOf (IsSheetFault ds why.line) why.fault)

  pub only_sheet : (r : Result Sheet SheetSortFault) → Tells r → (sheet : Sheet) → IsSheetOf ds sheet → MatchResult r (λ book. sheet ≡ book) (λ why. IsWantOfMemory why.fault)
  only_sheet (Ok book) h sheet k = all_one trees ds empty_sheet sheet book empty_formed k h
  only_sheet (Err why) h sheet k = weaker (IsSheetFault ds why.line) (λ f. ⊥) (λ f at. all_never trees ds empty_sheet sheet empty_formed k why.line f at) why.fault h

  pub only_fault : (r : Result Sheet SheetSortFault) → Tells r → (line : ℕ) (e : SortFault) → IsSheetFault ds line e → MatchResult r (λ book. ⊥) (λ why. IsFaultOf (λ f. (f ≡ e) × (why.line ≡ line)) why.fault)
  only_fault (Ok book) h line e k = all_never trees ds empty_sheet book empty_formed h line e k
  only_fault (Err why) h line e k = weaker (IsSheetFault ds why.line) (λ f. (f ≡ e) × (why.line ≡ line)) (λ f at. let same = all_same trees ds empty_sheet empty_formed why.line line f e at k in (same.1, same.0)) why.fault h
