-- What may be claimed of a sheet's maximal sets.
use Rattle.std.specs.Prelude.{List, All}
use Rattle.pc_sheet.specs.Sheet.{Sheet}
use Rattle.pc_sheet.specs.Entailment.{HasTarget}
use Rattle.pc_world_list.specs.declared.set_proof.SetsClaim.{SetsClaim}
use Rattle.pc_world_list.specs.declared.set_proof.SetsClaim.TheVariants.{Repairs, Lacking}
use Rattle.pc_reason.specs.Targets.{IsTargetIn}
use Rattle.pc_world_list.specs.Worlds.{WorldView}

-- nothing more; or that their assignments lack a target
abbrev pub IsRightOn : Sheet → List WorldView → SetsClaim → Type 0
IsRightOn sheet worlds Repairs = Unit {0}
IsRightOn sheet worlds (Lacking t) = IsTargetIn sheet.universe t × All (λ w. ¬ HasTarget w.shown t) worlds
