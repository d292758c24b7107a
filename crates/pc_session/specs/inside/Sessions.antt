-- What holds of a session.
use Rattle.std.specs.Prelude.{◌↔◌, ◌≤◌, List, Contains}
use Rattle.std.specs.List.{AllZip}
use Rattle.pc_sheet.specs.Limits.{most_weight}
use Rattle.pc_sheet.specs.Sheet.{Sheet}
use Rattle.pc_sheet.specs.Weight.{weight}
use Rattle.pc_sheet.specs.declared.ids.Target.{Target}
use Rattle.pc_parts.specs.Components.{parts_of}
use Rattle.pc_reason.specs.Targets.{IsTargetIn}
use Rattle.pc_justify_laws.specs.Reasons.{IsJustifying}
use Rattle.pc_cache.specs.Rows.{TargetRow, HasRowOf, row_of}
use Rattle.pc_world_list.specs.Worlds.{WorldView}
use Rattle.pc_search.specs.Parts.{AreWorldsOf}
use Rattle.pc_theory.specs.Theories.{rules_alone, TheoryView, IsTheory}

-- there is a place for a row of each target, and of no other
abbrev pub HavePlaces : Sheet → List TargetRow → Type 0
HavePlaces sheet rows = (t : Target) → HasRowOf rows t ↔ IsTargetIn sheet.universe t

-- each change is of a target of the sheet
abbrev pub ArePlaced : Sheet → List TargetRow → Type 0
ArePlaced sheet changes = (r : TargetRow) → Contains changes r → IsTargetIn sheet.universe r.target

-- The theory is that of the sheet's rules, each part has its worlds, and each target has a place for a row, which is right.
pub record IsSession (sheet : Sheet) (theory : TheoryView) (worlds : List (List WorldView)) (rows : List TargetRow) : Type 0 where
  pub light : weight sheet ≤ most_weight
  pub known : IsTheory (rules_alone sheet) theory
  pub worlds_of : AllZip (AreWorldsOf sheet) (parts_of (rules_alone sheet)) worlds
  pub places : HavePlaces sheet rows
  pub reasons : IsJustifying sheet (row_of rows)
