use Rattle.pc_checker.proofs.CounterLemmas.{few_counted}
use Rattle.pc_checker.proofs.node.write_node.Goals as goal

pub write_count-requires-clause-few : goal.write_count-requires-clause-few
write_count-requires-clause-few c =
    few_counted c.args.kind c.in-Count.at_most c.in-Count.values c.in-Count.threshold c.in-Count.is
    (c.few_children.ensures c.args.path.now.rule c.args.path.now.steps.items c.args.kind c.requires.at)
