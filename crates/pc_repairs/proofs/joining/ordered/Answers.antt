use Rattle.std.proofs.Common.{List, length, map, arith, ap, sym, subst}
use Rattle.std.specs.List.Sorted.{IsPermutation}
use Rattle.pc_repairs.specs.declared.ordering.Aged.{Aged}
use Rattle.pc_repairs.proofs.Sorted.{all_sorted, in_order_sorted}
use Rattle.pc_repairs.proofs.joining.ordered.Goals as goal

pub returns-clause-worlds : goal.returns-clause-worlds
returns-clause-worlds c =
    let is = all_sorted c.in_ok-aged_sets.aged_sets.items c.deref-aged-items.result.now c.loop-aged.aged-index c.loop-aged.sorted (omega (arith, c.loop-aged-test.false)) c.deref-aged-items.ensures.value c.loop-aged.invariant in
    subst (IsPermutation c.args.worlds.now) (sym is) c.in_ok-aged_sets.ensures.worlds

pub returns-clause-order : goal.returns-clause-order
returns-clause-order c =
    let is = all_sorted c.in_ok-aged_sets.aged_sets.items c.deref-aged-items.result.now c.loop-aged.aged-index c.loop-aged.sorted (omega (arith, c.loop-aged-test.false)) c.deref-aged-items.ensures.value c.loop-aged.invariant in
    in_order_sorted c.args.entries.now c.in_ok-aged_sets.aged_sets.items c.loop-aged.sorted is c.in_ok-aged_sets.ensures.order
