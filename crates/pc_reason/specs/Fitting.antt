-- Why rules are consistent: an assignment that fits.
use Rattle.std.specs.Prelude.{List}
use Rattle.pc_sheet.specs.Sheet.{Sheet}
use Rattle.pc_sheet.specs.Entailment.{IsAssignment, Fits}
use Rattle.pc_sheet.specs.declared.ids.ValueId.{ValueId}

-- an assignment of the sheet that makes every rule true
pub record IsFitting (sheet : Sheet) (a : List ValueId) : Type 0 where
  pub assigns : IsAssignment sheet.universe a
  pub fits : Fits sheet a
