use Rattle.std.proofs.Common.{◌+◌, ap, arith}
use Rattle.pc_components.proofs.NumbersRight.{counted, numbered_next}
use Rattle.pc_components.proofs.numbers.number_cells.Goals as goal

pub loop-c-preserved : goal.loop-c-preserved
loop-c-preserved c = record {
  numbers = numbered_next c.args.labels.now c.requires c.loop-c.c _ c.loop-c.count c.number_of_cell-number.result c.deref.result.now c.loop-c.numbers.items _ (omega arith) c.deref.ensures.value c.loop-c.invariant.count c.loop-c.invariant.numbers
      c.number_of_cell-number.ensures c.in_ok-push.ensures.items;
  count = counted c.args.labels.now c.loop-c.c _ c.loop-c.count (c.loop-c.count + c.count_first-count.result) (omega arith) c.loop-c.invariant.count (ap (λ m. c.loop-c.count + m) c.count_first-count.ensures.exact);
  small = let l = c.loop-c.invariant.small in let m = c.count_first-count.ensures.small in omega (arith, l, m);
}
