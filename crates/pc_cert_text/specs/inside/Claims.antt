-- Which claims on sets can be written.
use Rattle.pc_sheet.specs.Sheet.{Sheet}
use Rattle.pc_accept.specs.Writable.{IsTargetOf}
use Rattle.pc_world_list.specs.declared.set_proof.SetsClaim.{SetsClaim}
use Rattle.pc_world_list.specs.declared.set_proof.SetsClaim.TheVariants.{Repairs, Lacking}

-- the target is on a cell and a value of the sheet
abbrev pub CanBeClaimed : Sheet → SetsClaim → Type 0
CanBeClaimed sheet Repairs = Unit {0}
CanBeClaimed sheet (Lacking target) = IsTargetOf sheet target
