use Rattle.pc_display.proofs.NameLemmas.{is_as_wide}
use Rattle.pc_display.proofs.columns.measured.Goals as goal

pub returns-clause-columns : goal.returns-clause-columns
returns-clause-columns c =
    is_as_wide c.args.book.now.universe c.requires.formed.universe c.args.family c.family_name.result.now c.width.result c.requires.family c.family_name.ensures c.width.ensures.value c.width.ensures.bound
