use Rattle.std.proofs.Common.{◌≡◌, Contains, take, true, false}
use Rattle.pc_sheet.specs.Entailment.{cell_sizes}
use Rattle.pc_sheet.specs.declared.ids.Target.{Target}
use Rattle.pc_cache.specs.Rows.{row_of}
use Rattle.pc_theory.specs.Targets.{targets_on}
use Rattle.pc_session.specs.inside.Stale.{is_stale}
use Rattle.pc_session.specs.inside.Taken.{takes}
use Rattle.pc_session.proofs.stale.is_used.Given as goal

abbrev pub invariant-loop-cell : goal.invariant-loop-cell
invariant-loop-cell l = (t : Target) → Contains (targets_on (cell_sizes l.state.book.universe) (take l.cell-index l.cells)) t → is_stale (takes l.taken) false (row_of l.state.cache.rows t) ≡ true → ⊥
