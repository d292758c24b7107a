use Rattle.pc_books.proofs.RowLemmas.{row_set}
use Rattle.pc_books.proofs.declarations.add_row.Goals as goal

pub returns-clause-ok : goal.returns-clause-ok
returns-clause-ok c = row_set c.args.tables.now c.args.place c.index-tables-place.result c.add.new.self c.args.row.now c.requires c.in_ok-add.ensures.ok
