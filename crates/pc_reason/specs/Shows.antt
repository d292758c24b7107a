-- What a justification shows of its target.
use Rattle.pc_sheet.specs.Sheet.{Sheet}
use Rattle.pc_sheet.specs.Entailment.{IsAssignment, Fits, HasAll, IsLeastSupport}
use Rattle.pc_sheet.specs.declared.ids.Target.{Target}
use Rattle.pc_axiom_names.specs.Listed.{NameLists}
use Rattle.pc_reason.specs.Reasons.{Justification, Justifies}

-- its support is the least one of the target, and its assignment makes every rule true and has the support
pub record ShowsSupport (sheet : Sheet) (t : Target) (j : Justification) : Type 0 where
  pub least : IsLeastSupport sheet j.support t
  pub assigns : IsAssignment sheet.universe j.shown
  pub fits : Fits sheet j.shown
  pub has : HasAll j.shown j.support

abbrev pub JustificationsShowSupports : Type 0
JustificationsShowSupports = (sheet : Sheet) (names : NameLists) (t : Target) (j : Justification) → Justifies sheet names t j → ShowsSupport sheet t j
