-- A kept reason, as it is lent.
use Rattle.std.proofs.Common.{◌≡◌, Option, None, Some, IfSome, List, ap, sym, ◌∙◌, subst}
use Rattle.std.specs.Prelude.{option_map}
use Rattle.pc_sheet.specs.Sheet.{Sheet}
use Rattle.pc_sheet.specs.declared.ids.Target.{Target}
use Rattle.pc_axiom_names.specs.Listed.{NameLists}
use Rattle.pc_ground.specs.GroundView.{Grounded}
use Rattle.pc_ground.specs.Grounded.{grounded}
use Rattle.pc_ground.specs.Naming.{names_of}
use Rattle.pc_reason.specs.Reasons.{IsReasonFor, Justifies, justification_of}
use Rattle.pc_reason.specs.Targets.{IsTargetIn}
use Rattle.pc_reason.specs.declared.reason.Reason.{Reason}
use Rattle.pc_justify_laws.specs.Reasons.{IsJustifying, IsRowFor}
use Rattle.pc_cache.specs.Lent.{IsLentFor}
use Rattle.pc_cache.specs.Rows.{TargetRow, row_of}
use Rattle.pc_theory.specs.Theories.{rules_alone}
use Rattle.pc_theory.proofs.OfRules.{grounded_alone}

pub names_are : (sheet : Sheet) (ground : Grounded) (names : NameLists) → names ≡ ground.names → ground ≡ grounded (rules_alone sheet) → names ≡ names_of sheet
names_are sheet ground names is of_rules = let of : Grounded → NameLists = λ g. g.names in is ∙ ap of (of_rules ∙ grounded_alone sheet)

pub reason_right : (sheet : Sheet) (rows : List TargetRow) (names : NameLists) (t : Target) (r : Option Reason) → IsJustifying sheet (row_of rows) → IsTargetIn sheet.universe t → names ≡ names_of sheet
    → option_map justification_of r ≡ row_of rows t → IfSome r (IsLentFor names t) → IsReasonFor sheet t r
reason_right sheet rows names t None reasons is named row lent = subst (IsRowFor sheet t) (sym row) (reasons t is)
reason_right sheet rows names t (Some r) reasons is named row lent = record {
  target = lent.target;
  picked = lent.picked;
  justifies = subst (λ ns. Justifies sheet ns t (justification_of r)) (sym (lent.names_are ∙ named)) (subst (IsRowFor sheet t) (sym row) (reasons t is));
}
