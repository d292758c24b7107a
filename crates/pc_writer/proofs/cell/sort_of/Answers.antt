use Rattle.pc_writer.proofs.CellLemmas.{family_there, cell_sort_is}
use Rattle.pc_writer.proofs.cell.sort_of.Goals as goal

pub result_sort-requires : goal.result_sort-requires
result_sort-requires c = family_there c.args.book.now.universe c.args.cell c.requires c.cell_family.result c.cell_family.ensures

pub returns : goal.returns
returns c = cell_sort_is c.args.book.now.universe c.args.cell c.requires c.cell_family.result c.cell_family.ensures c.result_sort.result c.result_sort.ensures
