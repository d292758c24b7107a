use Rattle.pc_writer.proofs.CellLemmas.{family_there}
use Rattle.pc_display.proofs.columns.name_columns.Goals as goal

pub measured-requires-clause-family : goal.measured-requires-clause-family
measured-requires-clause-family c = family_there c.args.book.now.universe c.args.cell c.requires.cell c.cell_family-family.result c.cell_family-family.ensures

pub measured-requires-else-name-family-clause-family : goal.measured-requires-else-name-family-clause-family
measured-requires-else-name-family-clause-family c = family_there c.args.book.now.universe c.args.cell c.requires.cell c.cell_family-family.result c.cell_family-family.ensures
