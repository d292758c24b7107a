-- The supports that a display shows: for each target its least support, or that it has none.
use Rattle.std.specs.Prelude.{List, Option, Some, None}
use Rattle.pc_sheet.specs.Sheet.{Sheet}
use Rattle.pc_sheet.specs.Entailment.{IsImplied, IsLeastSupport}
use Rattle.pc_sheet.specs.declared.ids.Entry.{Entry}
use Rattle.pc_sheet.specs.declared.ids.Target.{Target}
use Rattle.pc_reason.specs.Targets.{IsTargetIn}

-- a support, or none
abbrev pub Reasoning : Type 0
Reasoning = Target → Option (List Entry)

-- the least support of an implied target, and none exactly where it isn't implied
abbrev pub IsSupportFor : Sheet → Target → Option (List Entry) → Type 0
IsSupportFor sheet t None = ¬ IsImplied sheet t
IsSupportFor sheet t (Some s) = IsLeastSupport sheet s t

-- of every target of the sheet
abbrev pub IsReasoning : Sheet → Reasoning → Type 0
IsReasoning sheet reason = (t : Target) → IsTargetIn sheet.universe t → IsSupportFor sheet t (reason t)
