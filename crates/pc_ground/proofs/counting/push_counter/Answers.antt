use Rattle.pc_ground.proofs.CountersAdded.{counter_added}
use Rattle.pc_ground.proofs.counting.push_counter.Goals as goal

pub returns : goal.returns
returns c =
    let a = c.args.counted in
    counter_added a.node a.values a.size a.threshold c.args.i c.args.j c.counter_part-is.result c.counter_part-not.result c.counter_part-before.result c.counter_part-not_before.result c.counter_part-fewer.result c.counter_part-not_fewer.result c.body_part-last.result c.body_part-not_last.result
    c.counter_part-is.ensures c.counter_part-not.ensures c.counter_part-before.ensures c.counter_part-not_before.ensures c.counter_part-fewer.ensures c.counter_part-not_fewer.ensures c.body_part-last.ensures c.body_part-not_last.ensures
    c.args.store.now _ _ _ _ c.in_ok-push_row.ensures c.in_ok-push_row-2.ensures c.in_ok-push_row-3.ensures c.in_ok-push_row-4.ensures
