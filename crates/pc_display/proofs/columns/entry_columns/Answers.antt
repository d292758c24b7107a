use Rattle.std.proofs.Common.{◌∙◌, ap, refl}
use Rattle.pc_writer.specs.Spelling.{sort_of}
use Rattle.pc_display.specs.Show.{entered_text}
use Rattle.pc_display.specs.Grid.{columns}
use Rattle.pc_display.proofs.SheetLemmas.{book_values, own_few}
use Rattle.pc_display.proofs.columns.entry_columns.Goals as goal

pub entered_columns-requires-clause-few : goal.entered_columns-requires-clause-few
entered_columns-requires-clause-few c =
    own_few c.args.book.now c.args.book.now refl c.entries_of-found.ensures.formed c.args.cell c.as_slice.result.now (c.as_slice.ensures ∙ c.entries_of-found.ensures.exact)

pub entered_columns-requires-clause-values : goal.entered_columns-requires-clause-values
entered_columns-requires-clause-values c =
    book_values c.args.book.now c.entries_of-found.ensures.formed c.args.cell c.as_slice.result.now (c.as_slice.ensures ∙ c.entries_of-found.ensures.exact)

pub returns-clause-exact : goal.returns-clause-exact
returns-clause-exact c =
    let u = c.args.book.now.universe in
    c.entered_columns.ensures ∙ ap (λ es. columns (entered_text u (sort_of u c.args.cell) es)) (c.as_slice.ensures ∙ c.entries_of-found.ensures.exact)
