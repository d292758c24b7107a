use Rattle.std.proofs.Common.{arith, rules, subst, w64}
use Rattle.std.proofs.lemmas.Int.{ints, to_z-of_z}
use Rattle.pc_sheet.specs.WellSorted.{IsSmallNumber}
use Rattle.pc_sortcheck.proofs.sorts.test_range.Goals as goal

pub returns : goal.returns
returns c =
    let low : IsSmallNumber c.args.low = subst IsSmallNumber (to_z-of_z w64 c.args.low c.ranges.low) (c.is_small_number.ensures.0 (search rules)) in
    let high : IsSmallNumber c.args.high = subst IsSmallNumber (to_z-of_z w64 c.args.high c.ranges.high) (c.is_small_number-2.ensures.0 (search rules)) in
    record {
      fresh = c.is_new.ensures.0 (search rules);
      sorts = c.has_room_for_sort.ensures.0 (search rules);
      low_bound = low;
      high_bound = high;
      some = omega (arith, ints);
      limit = omega (arith, ints);
    }
