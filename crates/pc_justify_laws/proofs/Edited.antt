-- After an edit of a cell's entries all reasons are right.
use Rattle.std.proofs.Common.{inl, inr, Bool, List, Option, None, Some, Contains, sym, subst}
use Rattle.pc_sheet.specs.Sheet.{Sheet}
use Rattle.pc_sheet.specs.MaximalSets.{AreRulesConsistent}
use Rattle.pc_sheet.specs.WellFormed.{IsWellFormed}
use Rattle.pc_sheet.specs.Entailment.{IsImplied}
use Rattle.pc_sheet.specs.declared.ids.CellId.{CellId}
use Rattle.pc_sheet.specs.declared.ids.Entry.{Entry}
use Rattle.pc_sheet.specs.declared.ids.Target.{Target}
use Rattle.pc_parts.specs.Parts.{Part, IsDivision}
use Rattle.pc_reason.specs.Reasons.{Justification}
use Rattle.pc_reason.specs.Targets.{IsTargetIn}
use Rattle.pc_justify_laws.specs.Reasons.{IsRowFor}
use Rattle.pc_justify_laws.specs.Edits.{edited, IsEditOf, MayStay}
use Rattle.pc_justify_laws.specs.EditLaws.{EditedReasonsAreRight}
use Rattle.pc_justify_laws.proofs.Staying.{reasons_stay, none_stays}
use Rattle.pc_justify_laws.proofs.OtherParts.{other_parts_stay}

module _ (sheet : Sheet) (parts : List Part) (part : Part) (c : CellId) (gone : Entry → Bool) (added : List Entry) (division : IsDivision sheet parts) (rules : AreRulesConsistent sheet)
    (formed : IsWellFormed sheet) (formed_after : IsWellFormed (edited sheet gone added)) (edit : IsEditOf c gone added) (in_parts : Contains parts part) (on_part : Contains part.cells c.0) where
  stays : (t : Target) (r : Option Justification) → IsTargetIn sheet.universe t → IsRowFor sheet t r → MayStay part.cells gone added t r → IsRowFor (edited sheet gone added) t r
  stays t None is_target none (inl nothing) =
      let P : List Entry → Type 0 = λ more. ¬ IsImplied (edited sheet gone more) t in
      subst P (sym nothing) (none_stays sheet gone t none)
  stays t None is_target none (inr other) = (other_parts_stay sheet parts part c gone added t division rules formed formed_after edit in_parts on_part is_target other).0 none
  stays t (Some r) is_target is (inl lacks) = reasons_stay sheet gone added c t r edit.adds formed.entries.distinct formed_after.entries.distinct lacks is
  stays t (Some r) is_target is (inr other) =
      let lacks = (other_parts_stay sheet parts part c gone added t division rules formed formed_after edit in_parts on_part is_target other).1 r is in
      reasons_stay sheet gone added c t r edit.adds formed.entries.distinct formed_after.entries.distinct lacks is

pub edited_reasons_are_right : EditedReasonsAreRight
edited_reasons_are_right sheet parts part c gone added before after division rules formed formed_after edit in_parts on_part right each t is_target =
    elim (each t is_target) [
      | inl searched ↦ searched
      | inr same ↦ subst (IsRowFor (edited sheet gone added) t) (sym same.0) (stays sheet parts part c gone added division rules formed formed_after edit in_parts on_part t (before t) is_target (right t is_target) same.1)
    ]
