use Rattle.std.proofs.lemmas.List.Sorted.{All-permutation}
use Rattle.pc_repairs.specs.inside.Ages.{HasItsSet}
use Rattle.pc_repairs.proofs.Ages.{in_their_order, worlds_moved}
use Rattle.pc_repairs.proofs.ordering.in_order.Goals as goal

pub returns-clause-worlds : goal.returns-clause-worlds
returns-clause-worlds c = worlds_moved c.args.entries.now c.requires.different c.args.worlds.now c.requires.sublists c.requires.apart c.in_ok-aged.aged.items c.sort_by_age.new.aged.items c.in_ok-aged.ensures c.sort_by_age.ensures.permutation

pub returns-clause-order : goal.returns-clause-order
returns-clause-order c = in_their_order c.args.entries.now c.requires.different c.args.worlds.now c.requires.sublists c.requires.apart c.in_ok-aged.aged.items c.sort_by_age.new.aged.items c.in_ok-aged.ensures c.sort_by_age.ensures.permutation c.in_ok-sort_by_age.ensures.sorted

pub returns-clause-has : goal.returns-clause-has
returns-clause-has c = All-permutation HasItsSet c.in_ok-aged.aged.items c.sort_by_age.new.aged.items c.sort_by_age.ensures.permutation c.in_ok-aged.ensures.has
