use Rattle.std.proofs.Common.{◌≡◌, Contains, true, false}
use Rattle.pc_sheet.specs.declared.ids.Target.{Target}
use Rattle.pc_cache.specs.Rows.{row_of}
use Rattle.pc_theory.specs.Targets.{targets_on_cell}
use Rattle.pc_session.specs.inside.Stale.{is_stale}
use Rattle.pc_session.specs.inside.Taken.{takes}
use Rattle.pc_session.proofs.stale.is_used_on.Given as goal

abbrev pub invariant-loop-value : goal.invariant-loop-value
invariant-loop-value l = (t : Target) → Contains (targets_on_cell l.cell l.value) t → is_stale (takes l.taken) false (row_of l.cache.rows t) ≡ true → ⊥
