-- Which targets an edit searches again.
use Rattle.std.specs.Prelude.{ℕ, Bool, List, Option, None, Some, filter}
use Rattle.std.specs.List.{list_any}
use Rattle.pc_sheet.specs.declared.ids.CellId.{CellId}
use Rattle.pc_sheet.specs.declared.ids.Entry.{Entry}
use Rattle.pc_sheet.specs.declared.ids.Target.{Target}
use Rattle.pc_reason.specs.Reasons.{Justification}
use Rattle.pc_cache.specs.Rows.{TargetRow, row_of}
use Rattle.pc_theory.specs.Targets.{targets_on}

-- those whose support has an entry that is gone; where one is added also those without a reason
abbrev pub is_stale : (Entry → Bool) → Bool → Option Justification → Bool
is_stale gone added None = added
is_stale gone added (Some j) = list_any gone j.support

abbrev pub stale_on : List TargetRow → (Entry → Bool) → Bool → List ℕ → List CellId → List Target
stale_on rows gone added sizes cells = filter (λ t. is_stale gone added (row_of rows t)) (targets_on sizes cells)
