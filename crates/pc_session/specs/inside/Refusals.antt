-- The refusal of a load, and of a search that ended early, as that of an edit.
use Rattle.std.specs.Prelude.{◌≡◌, ◌⊎◌}
use Rattle.pc_sheet.specs.Sheet.{Sheet}
use Rattle.pc_solver.specs.declared.stop.Stop.{Stop}
use Rattle.pc_solver.specs.declared.stop.Stop.TheVariants as stop
use Rattle.pc_theory.specs.declared.spending.Spending.{Spending}
use Rattle.pc_session.specs.declared.refused.LoadRefused.{LoadRefused}
use Rattle.pc_session.specs.declared.refused.LoadRefused.TheVariants as load
use Rattle.pc_session.specs.declared.refused.EditRefused.{EditRefused}
use Rattle.pc_session.specs.declared.refused.EditRefused.TheVariants as edit

abbrev pub IsSameRefusal : LoadRefused → EditRefused → Type 0
IsSameRefusal load.TooLarge refused = refused ≡ edit.TooLarge
IsSameRefusal (load.Inconsistent refutation) refused = refused ≡ edit.Inconsistent refutation
IsSameRefusal (load.Spent book spending) refused = refused ≡ edit.Spent book spending
IsSameRefusal load.Memory refused = refused ≡ edit.Memory

-- without memory for the book's copy a search that spent too much is refused as one without memory
abbrev pub IsStopTold : Stop → Sheet → Spending → EditRefused → Type 0
IsStopTold stop.Spent made spending refused = (refused ≡ edit.Spent made spending) ⊎ (refused ≡ edit.Memory)
IsStopTold stop.Memory made spending refused = refused ≡ edit.Memory
