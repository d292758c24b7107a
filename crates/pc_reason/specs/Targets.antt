-- Which targets a universe has.
use Rattle.std.specs.Prelude.{◌<◌, slice_get, IsSomeAnd}
use Rattle.pc_sheet.specs.Sheet.{Universe}
use Rattle.pc_sheet.specs.Entailment.{cell_sizes}
use Rattle.pc_sheet.specs.declared.ids.Target.{Target}

-- of a cell and a value of its sort
abbrev pub IsTargetIn : Universe → Target → Type 0
IsTargetIn u t = IsSomeAnd (slice_get (cell_sizes u) t.cell.0) (λ n. t.value.0 < n)
