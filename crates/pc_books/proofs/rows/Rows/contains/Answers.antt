use Rattle.std.proofs.Common.{ap, ◌∙◌}
use Rattle.std.specs.List.{list_any}
use Rattle.pc_sheet.specs.Readings.{is_same_row}
use Rattle.pc_books.proofs.RowLemmas.{any_same, value_decides}
use Rattle.pc_books.proofs.rows.Rows.contains.Goals as goal

pub returns : goal.returns
returns c = c.contains.ensures ∙ any_same _ value_decides c.self.inside.rows.keys c.args.row.now ∙ ap (list_any (λ r. is_same_row r c.args.row.now)) c.self.view_is
