-- Assignments of sets of entries that lack a target.
use Rattle.std.specs.Prelude.{◌≡◌, List, Option, Some, None, map, All, Contains}
use Rattle.pc_sheet.specs.Sheet.{Sheet}
use Rattle.pc_sheet.specs.Entailment.{Shows, HasTarget, Entails, IsImplied}
use Rattle.pc_sheet.specs.declared.ids.Target.{Target}
use Rattle.pc_world_list.specs.Worlds.{WorldView, set_of}

-- The same sets in their order, each with an assignment that fits, has it and lacks the target, which isn't implied.
pub record AreLacking (sheet : Sheet) (sets : List WorldView) (t : Target) (worlds : List WorldView) : Type 0 where
  pub same : map set_of worlds ≡ map set_of sets
  pub shown : All (λ w. Shows sheet w.entries w.shown) worlds
  pub lack : All (λ w. ¬ HasTarget w.shown t) worlds
  pub unimplied : ¬ IsImplied sheet t

-- some set entails the target, which so is implied; or none does
abbrev pub LackSays : Sheet → List WorldView → Target → Option (List WorldView) → Type 0
LackSays sheet sets t None = IsImplied sheet t × ((w : WorldView) × Contains sets w × Entails sheet w.entries t)
LackSays sheet sets t (Some worlds) = AreLacking sheet sets t worlds
