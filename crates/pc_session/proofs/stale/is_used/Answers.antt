use Rattle.std.proofs.Common.{◌≡◌, true, false, Bool}
use Rattle.pc_sheet.specs.Entailment.{cell_sizes}
use Rattle.pc_sheet.specs.declared.ids.Target.{Target}
use Rattle.pc_cache.specs.Rows.{row_of}
use Rattle.pc_session.specs.inside.Stale.{is_stale}
use Rattle.pc_session.specs.inside.Taken.{takes}
use Rattle.pc_session.proofs.UsedTargets.{none_on, there_on}
use Rattle.pc_session.proofs.stale.is_used.Goals as goal

pub returns-then-is_used_on-clause-some : goal.returns-then-is_used_on-clause-some
returns-then-is_used_on-clause-some c =
    λ _.
    let found = c.is_used_on.ensures.some c.if-is_used_on.true in
    (found.0, there_on (cell_sizes c.args.state.now.book.universe) c.args.cells.now c.loop-cell.cell-index c.values_of.result (record { 0 = 0 }) found.0 c.loop-cell-test.true c.values_of.ensures.exact found.1, found.2)

pub loop-cell-preserved : goal.loop-cell-preserved
loop-cell-preserved c =
    let test : Target → Bool = λ t. is_stale (takes c.args.taken) false (row_of c.args.state.now.cache.rows t) in
    none_on (cell_sizes c.args.state.now.book.universe) c.args.cells.now c.loop-cell.cell-index c.values_of.result (record { 0 = 0 }) test c.loop-cell-test.true c.values_of.ensures.exact c.loop-cell.invariant
    (λ t there uses. not_used c.is_used_on.result (c.is_used_on.ensures.none t there uses) c.if-is_used_on.false)
  where
    not_used : (b : Bool) → b ≡ true → b ≡ false → ⊥
    not_used b is is_not = cc
