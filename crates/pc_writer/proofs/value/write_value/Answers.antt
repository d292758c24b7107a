use Rattle.pc_writer.proofs.CellLemmas.{sort_there}
use Rattle.pc_writer.proofs.value.write_value.Goals as goal

pub range_of-requires : goal.range_of-requires
range_of-requires g c = sort_there c.args.book.now.universe c.args.sort c.args.value c.requires

pub value_name-requires-clause-sort : goal.value_name-requires-clause-sort
value_name-requires-clause-sort g c = sort_there c.args.book.now.universe c.args.sort c.args.value c.requires
