-- The sheets of the parts of small sheets, computed.
use Rattle.std.proofs.Common.{◌≡◌, ℕ, zero, suc, ◌<◌, List, [], ◌∷◌, ◌++◌, arith, ap, refl, sym, ◌∙◌, Some, reverse, All, AllPairs, nat_abs, codes}
use Rattle.std.proofs.lemmas.List.Elements.{All-head}
use Rattle.pc_sheet.specs.Sheet.{NamedStatement}
use Rattle.pc_sheet.specs.Truth.{Holds}
use Rattle.pc_sheet.specs.declared.ids.ValueId.{ValueId}
use Rattle.pc_sheet.specs.Entailment.{IsLeastSupport}
use Rattle.pc_sheet.specs.MaximalSets.{AreRulesConsistent}
use Rattle.pc_laws.specs.Examples.{IsShownFor, red, green, entry, target, two_pairs}
use Rattle.pc_laws.proofs.Finding.{computed}
use Rattle.pc_parts.specs.Components.{parts_of}
use Rattle.pc_parts.specs.Pieces.{Piece}
use Rattle.pc_parts.specs.Parts.{Part, part_without_cells, AreParts, IsBefore}
use Rattle.pc_worked_laws.specs.PartSheets.{WorkedPartSheets, first_pair, second_pair, false_sheet, free_cell, one_is_two}
use Rattle.pc_worked_laws.proofs.Computing.{is_consistent, lists}

in_second : IsLeastSupport second_pair (entry 3 green ∷ []) (target 2 green)
in_second = All-head (λ p. IsShownFor second_pair p.0 p.1) (target 2 green, Some (entry 3 green ∷ [])) [] (computed second_pair ((target 2 green, Some (entry 3 green ∷ [])) ∷ []) refl)

-- ---- parts that are turned

abbrev cells_at : ℕ → List Part → List ℕ
cells_at k [] = []
cells_at zero (p ∷ ps) = p.cells
cells_at (suc k) (p ∷ ps) = cells_at k ps

abbrev count : List Part → ℕ
count [] = 0
count (p ∷ ps) = suc (count ps)

few : (rest : List Piece) → count (part_without_cells rest) < 2
few [] = omega arith
few (p ∷ ps) = omega arith

turned_order : (first second : Part) (c d : ℕ) (cs ds : List ℕ) → first.cells ≡ c ∷ cs → second.cells ≡ d ∷ ds → c < d
    → (components : List Part) (rest : List Piece) → AllPairs IsBefore components → second ∷ first ∷ [] ≡ components ++ part_without_cells rest → ⊥
turned_order first second c d cs ds is_c is_d lt [] rest order are = omega (arith, few rest, ap count are)
turned_order first second c d cs ds is_c is_d lt (x ∷ []) [] order are = omega (arith, ap count are)
turned_order first second c d cs ds is_c is_d lt (x ∷ []) (p ∷ ps) order are = absurd (none (sym is_c ∙ ap (cells_at 1) are))
  where
    none : c ∷ cs ≡ [] → ⊥
    none e = cc
turned_order first second c d cs ds is_c is_d lt (x ∷ y ∷ more) rest order are =
    let x_is : x.cells ≡ d ∷ ds = sym (ap (cells_at 0) are) ∙ is_d in
    let y_is : y.cells ≡ c ∷ cs = sym (ap (cells_at 1) are) ∙ is_c in
    omega (arith, lt, order 0 1 x (omega arith) (omega arith) d c ds cs x_is y_is)

not_turned : ¬ AreParts two_pairs.sheet (reverse (parts_of two_pairs.sheet))
not_turned h = turned_order _ _ 0 2 (1 ∷ []) (3 ∷ []) refl refl (omega arith) h.components h.read_none h.order h.are

-- ---- rules that no assignment fits

abbrev HoldsAt : List ValueId → NamedStatement → Type 0
HoldsAt a rule = Holds false_sheet.universe a [] rule.states

never : (name : List ℕ) (a : List ValueId) → ¬ All (HoldsAt a) (record { name = name; states = one_is_two } ∷ [])
never name a fits = omega (arith, ap nat_abs (All-head (HoldsAt a) (record { name = name; states = one_is_two }) [] fits))

free : AreRulesConsistent free_cell
free = let h = is_consistent free_cell 2 [] refl [] refl in (h.0, h.1.assigns, h.1.fits)

pub part_sheets : WorkedPartSheets
part_sheets = record {
  pairs = refl;
  first_sets = lists first_pair 2 (2 ∷ 2 ∷ 2 ∷ []) refl ((entry 0 red ∷ []) ∷ (entry 1 green ∷ []) ∷ []) refl;
  second_sets = lists second_pair 2 (2 ∷ 2 ∷ 2 ∷ []) refl ((entry 2 red ∷ []) ∷ (entry 3 green ∷ []) ∷ []) refl;
  in_the_part = in_second;
  turned = not_turned;
  false_parts = refl;
  false_whole = λ h. never (codes "t") h.0 h.2;
  false_by_itself = λ h. never [] h.0 h.2;
  other_part = free;
}
