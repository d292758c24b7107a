-- Which reasons stay right when entries are edited.
use Rattle.std.specs.Prelude.{◌≡◌, ◌⊎◌, Bool, List, [], ◌∷◌, All, Contains}
use Rattle.pc_sheet.specs.Sheet.{Sheet}
use Rattle.pc_sheet.specs.Entailment.{IsImplied}
use Rattle.pc_sheet.specs.MaximalSets.{AreRulesConsistent}
use Rattle.pc_sheet.specs.WellFormed.{AreDifferent, IsWellFormed, is_of_cell, entries_of}
use Rattle.pc_sheet.specs.declared.ids.CellId.{CellId}
use Rattle.pc_sheet.specs.declared.ids.Entry.{Entry}
use Rattle.pc_sheet.specs.declared.ids.Target.{Target}
use Rattle.pc_books.specs.Edits.{is_same_entry, is_rival, entered, also_entered, without_entry, without_cell}
use Rattle.pc_parts.specs.Parts.{Part, IsDivision}
use Rattle.pc_reason.specs.Reasons.{Justification}
use Rattle.pc_reason.specs.Targets.{IsTargetIn}
use Rattle.pc_justify_laws.specs.Reasons.{IsJustified, IsRowFor, Justifying, IsJustifying}
use Rattle.pc_justify_laws.specs.Edits.{takes_none, IsTakenOf, HasNone, IsAdded, edited, IsEditOf, MayStay}

-- ---- what the edits of entries are

-- entering takes the cell's entries of another value away, and adds the entry where it doesn't stand
pub record EnteringEdits (sheet : Sheet) (e : Entry) : Type 0 where
  pub takes : IsTakenOf e.cell (is_rival e)
  pub adds : ¬ Contains sheet.entries e → entered sheet e ≡ edited sheet (is_rival e) (e ∷ [])
  pub keeps : Contains sheet.entries e → entered sheet e ≡ edited sheet (is_rival e) []
  -- where it stands alone nothing changes
  pub alone : Contains sheet.entries e → All (λ f. f ≡ e) (entries_of e.cell sheet.entries) → entered sheet e ≡ sheet

-- entering beside the others takes nothing away
pub record AddingEdits (sheet : Sheet) (e : Entry) : Type 0 where
  pub adds : ¬ Contains sheet.entries e → also_entered sheet e ≡ edited sheet takes_none (e ∷ [])
  pub stands : Contains sheet.entries e → also_entered sheet e ≡ sheet

-- removing an entry takes that one away
pub record RemovingEdits (sheet : Sheet) (e : Entry) : Type 0 where
  pub takes : IsTakenOf e.cell (is_same_entry e)
  pub removes : without_entry sheet e ≡ edited sheet (is_same_entry e) []

-- clearing takes all of the cell's away
pub record ClearingEdits (sheet : Sheet) (c : CellId) : Type 0 where
  pub takes : IsTakenOf c (is_of_cell c)
  pub clears : without_cell sheet c ≡ edited sheet (is_of_cell c) []

abbrev pub EachEntering : Type 0
EachEntering = (sheet : Sheet) (e : Entry) → EnteringEdits sheet e

abbrev pub EachAdding : Type 0
EachAdding = (sheet : Sheet) (e : Entry) → AddingEdits sheet e

abbrev pub EachRemoving : Type 0
EachRemoving = (sheet : Sheet) (e : Entry) → RemovingEdits sheet e

abbrev pub EachClearing : Type 0
EachClearing = (sheet : Sheet) (c : CellId) → ClearingEdits sheet c

-- ---- which reasons stay

-- a reason whose support has none of the entries that are gone stays right
abbrev pub ReasonsStay : Type 0
ReasonsStay = (sheet : Sheet) (gone : Entry → Bool) (added : List Entry) (c : CellId) (t : Target) (j : Justification) → IsAdded c added → AreDifferent sheet.entries → AreDifferent (edited sheet gone added).entries
    → HasNone gone j.support → IsJustified sheet t j → IsJustified (edited sheet gone added) t j

-- what isn't implied isn't implied by fewer entries
abbrev pub NoneStays : Type 0
NoneStays = (sheet : Sheet) (gone : Entry → Bool) (t : Target) → ¬ IsImplied sheet t → ¬ IsImplied (edited sheet gone []) t

-- In a sheet with consistent rules that is divided into parts: the support of a target outside of the part that has the cell has none of
-- the entries that are gone, and the target is implied after the edit exactly where it was before.
abbrev pub OtherPartsStay : Type 0
OtherPartsStay = (sheet : Sheet) (parts : List Part) (part : Part) (c : CellId) (gone : Entry → Bool) (added : List Entry) (t : Target)
    → IsDivision sheet parts → AreRulesConsistent sheet → IsWellFormed sheet → IsWellFormed (edited sheet gone added) → IsEditOf c gone added
    → Contains parts part → Contains part.cells c.0 → IsTargetIn sheet.universe t → ¬ Contains part.cells t.cell.0
    → (¬ IsImplied sheet t → ¬ IsImplied (edited sheet gone added) t) × ((j : Justification) → IsJustified sheet t j → HasNone gone j.support)

-- After an edit of a cell's entries each target that isn't searched again keeps what it had, where that may stay.
abbrev pub EditedReasonsAreRight : Type 0
EditedReasonsAreRight = (sheet : Sheet) (parts : List Part) (part : Part) (c : CellId) (gone : Entry → Bool) (added : List Entry) (before after : Justifying)
    → IsDivision sheet parts → AreRulesConsistent sheet → IsWellFormed sheet → IsWellFormed (edited sheet gone added) → IsEditOf c gone added
    → Contains parts part → Contains part.cells c.0 → IsJustifying sheet before
    → ((t : Target) → IsTargetIn sheet.universe t → IsRowFor (edited sheet gone added) t (after t) ⊎ ((after t ≡ before t) × MayStay part.cells gone added t (before t)))
    → IsJustifying (edited sheet gone added) after
