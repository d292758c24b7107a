use Rattle.std.proofs.Common.{arith, rules}
use Rattle.pc_sortcheck.proofs.sorts.test_list.Goals as goal

pub returns : goal.returns
returns c = record {
  fresh = c.is_new.ensures.0 (search rules);
  sorts = c.has_room_for_sort.ensures.0 (search rules);
  some = search rules;
  limit = omega arith;
  names = c.are_new_values.ensures.0 (search rules);
}
