use Rattle.std.proofs.Common.{sym, ◌∙◌, ap, subst}
use Rattle.std.proofs.lemmas.Result.{IfOk-weaker}
use Rattle.pc_sheet.specs.Sheet.{Sheet}
use Rattle.pc_writer.specs.Spelling.{cell_text, sort_of}
use Rattle.pc_display.specs.Json.{conflicts_data, entered_data}
use Rattle.pc_display.specs.inside.Entered.{HaveValuesOf}
use Rattle.pc_display.proofs.ObjectLemmas.{object_is}
use Rattle.pc_display.proofs.SheetLemmas.{book_values, own_are, own_fit}
use Rattle.pc_display.proofs.objects.cell_json.Goals as goal

pub conflicts_json-requires-clause-entries : goal.conflicts_json-requires-clause-entries
conflicts_json-requires-clause-entries g c =
    own_fit (g.V.Supports.sheet c.args.view.now) c.book-book.result.now c.book-book.ensures c.entries_of-found.ensures.formed c.args.cell c.as_slice-entries.result.now (c.as_slice-entries.ensures ∙ c.entries_of-found.ensures.exact)

pub entered_json-requires-clause-values : goal.entered_json-requires-clause-values
entered_json-requires-clause-values g c =
    let u = c.book-book.result.now.universe in
    subst (λ s. HaveValuesOf u s c.as_slice-entries.result.now) (sym c.sort_of.ensures)
    (book_values c.book-book.result.now c.entries_of-found.ensures.formed c.args.cell c.as_slice-entries.result.now (c.as_slice-entries.ensures ∙ c.entries_of-found.ensures.exact))

pub returns : goal.returns
returns g c = λ reason is.
    let sheet = g.V.Supports.sheet c.args.view.now in
    let book = c.book-book.result.now in
    let own = own_are sheet book c.book-book.ensures c.entries_of-found.ensures.formed c.args.cell c.as_slice-entries.result.now (c.as_slice-entries.ensures ∙ c.entries_of-found.ensures.exact) in
    let clash = c.in_ok-conflict.ensures reason is ∙ ap (conflicts_data sheet.universe reason) own in
    let entered = c.in_ok-entered.ensures
    ∙ ap (λ s. entered_data book.universe s c.as_slice-entries.result.now) c.sort_of.ensures
    ∙ ap (λ (s : Sheet). entered_data s.universe (sort_of s.universe c.args.cell) c.as_slice-entries.result.now) c.book-book.ensures
    ∙ ap (entered_data sheet.universe (sort_of sheet.universe c.args.cell)) own in
    let name = c.in_ok-cell_text.ensures ∙ ap (λ s. cell_text s.universe c.args.cell) c.book-book.ensures in
    IfOk-weaker c.object_json.result _ _ (λ built h. h ∙ object_is sheet reason c.args.cell _ _ _ _ name clash entered (c.in_ok-implied.ensures reason is)) c.object_json.ensures
