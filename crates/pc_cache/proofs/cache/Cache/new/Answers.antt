use Rattle.std.proofs.Common.{◌≤◌, ◌^◌, length, arith, ap, refl, sym, ◌∙◌}
use Rattle.pc_sheet.specs.Entailment.{cell_sizes}
use Rattle.pc_cache.specs.inside.Kept.{bytes_of_blocks}
use Rattle.pc_cache.proofs.Fresh.{cell_more, fresh_is_counted, fresh_is_kept, fresh_rows, fresh_targets}
use Rattle.pc_cache.proofs.cache.Cache.new.Goals as goal

pub loop-cell-preserved : goal.loop-cell-preserved
loop-cell-preserved c =
    let more = cell_more (cell_sizes c.args.book.now.universe) c.loop-cell.slots.items c.add_slots.new.slots.items c.loop-cell.starts.items c.loop-cell.cell c.values_of.result c.len.result
    c.loop-cell.invariant.slots c.loop-cell.invariant.starts c.values_of.ensures.exact (c.len.ensures ∙ c.loop-cell.slots.ok.0) c.in_ok-add_slots.ensures in
    record { slots = more.0; starts = c.in_ok-push.ensures.items ∙ more.1; few = omega (arith, more.2, c.loop-cell.invariant.few, c.values_of.ensures.few) }

pub invariant_of-result : goal.invariant_of-result
invariant_of-result c = (
  sym (ap bytes_of_blocks c.new.ensures.items),
  fresh_is_kept c.new.result.items (cell_sizes c.args.book.now.universe) c.loop-cell.starts.items c.loop-cell.slots.items c.loop-cell.cell c.loop-cell.invariant.starts c.loop-cell.invariant.slots
      (omega (arith, c.loop-cell.invariant.few, c.loop-cell.auto.cell-end, c.cells-cell-end.ensures.few)),
  fresh_is_counted (cell_sizes c.args.book.now.universe) c.loop-cell.slots.items c.loop-cell.cell c.loop-cell.invariant.slots,
)

pub returns : goal.returns
returns c =
    let few : length c.loop-cell.slots.items ≤ 2 ^ 21 = omega (arith, c.loop-cell.invariant.few, c.loop-cell.auto.cell-end, c.cells-cell-end.ensures.few) in
    let kept = fresh_is_kept c.new.result.items (cell_sizes c.args.book.now.universe) c.loop-cell.starts.items c.loop-cell.slots.items c.loop-cell.cell c.loop-cell.invariant.starts c.loop-cell.invariant.slots few in
    let rows = fresh_rows c.new.result.items c.args.book.now.universe c.loop-cell.starts.items c.loop-cell.slots.items c.loop-cell.cell kept c.loop-cell.invariant.slots (omega (arith, c.cells-cell-end.ensures.exact, c.loop-cell-test.false)) in
    record {
      order = fresh_targets c.new.result.items (cell_sizes c.args.book.now.universe) c.loop-cell.slots.items c.loop-cell.cell c.loop-cell.invariant.slots (omega (arith, c.cells-cell-end.ensures.exact, c.loop-cell-test.false));
      targets = rows.0;
      once = rows.1;
      empty = rows.2;
      bytes = ap bytes_of_blocks c.new.ensures.items;
      live = refl;
    }
