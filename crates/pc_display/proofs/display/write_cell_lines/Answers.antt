use Rattle.std.proofs.Common.{◌≡◌, ◌++◌, sym, ◌∙◌, ap, subst}
use Rattle.pc_sheet.specs.Sheet.{Sheet}
use Rattle.pc_sheet.specs.WellFormed.{entries_of}
use Rattle.pc_writer.specs.Spelling.{sort_of}
use Rattle.pc_writer.proofs.InTurn.{Writes-then, Writes-cut, Writes-same}
use Rattle.pc_display.specs.Show.{conflict_lines, head_line, value_lines}
use Rattle.pc_display.specs.inside.Entered.{HaveValuesOf}
use Rattle.pc_display.proofs.SheetLemmas.{book_values, own_are, own_fit, own_values, with_entries}
use Rattle.pc_display.proofs.display.write_cell_lines.Goals as goal

pub have_conflict-requires : goal.have_conflict-requires
have_conflict-requires g c =
    own_fit (g.V.Supports.sheet c.args.view.now) c.book-book.result.now c.book-book.ensures c.entries_of-found.ensures.formed c.args.cell c.as_slice-entries.result.now (c.as_slice-entries.ensures ∙ c.entries_of-found.ensures.exact)

pub write_head_line-requires-clause-values : goal.write_head_line-requires-clause-values
write_head_line-requires-clause-values g c =
    book_values c.book-book.result.now c.entries_of-found.ensures.formed c.args.cell c.as_slice-entries.result.now (c.as_slice-entries.ensures ∙ c.entries_of-found.ensures.exact)

pub write_conflict_lines-requires-clause-entries : goal.write_conflict_lines-requires-clause-entries
write_conflict_lines-requires-clause-entries g c =
    own_fit (g.V.Supports.sheet c.args.view.now) c.book-book.result.now c.book-book.ensures c.entries_of-found.ensures.formed c.args.cell c.as_slice-entries.result.now (c.as_slice-entries.ensures ∙ c.entries_of-found.ensures.exact)

pub write_conflict_lines-requires-clause-values : goal.write_conflict_lines-requires-clause-values
write_conflict_lines-requires-clause-values g c =
    let sheet = g.V.Supports.sheet c.args.view.now in
    let sort : c.sort_of.result ≡ sort_of sheet.universe c.args.cell = c.sort_of.ensures ∙ ap (λ (s : Sheet). sort_of s.universe c.args.cell) c.book-book.ensures in
    subst (λ s. HaveValuesOf sheet.universe s c.as_slice-entries.result.now) (sym sort)
    (own_values sheet c.book-book.result.now c.book-book.ensures c.entries_of-found.ensures.formed c.args.cell c.as_slice-entries.result.now (c.as_slice-entries.ensures ∙ c.entries_of-found.ensures.exact))

pub returns-in_err-write_head_line : goal.returns-in_err-write_head_line
returns-in_err-write_head_line g c = λ reason is.
    let sheet = g.V.Supports.sheet c.args.view.now in
    let u = sheet.universe in
    let own = c.as_slice-entries.ensures ∙ c.entries_of-found.ensures.exact in
    let head = with_entries sheet c.book-book.result.now c.book-book.ensures c.args.cell c.as_slice-entries.result.now own reason c.have_conflict.result (c.have_conflict.ensures reason is) (λ v es b. head_line v c.args.cell es b) in
    Writes-cut c.from_residual.result (value_lines u reason c.args.cell ++ conflict_lines u reason (sort_of u c.args.cell) (entries_of c.args.cell sheet.entries)) c.from_residual.ensures.0 (Writes-same head c.in_err-write_head_line.ensures)

pub returns-in_err-write_value_lines : goal.returns-in_err-write_value_lines
returns-in_err-write_value_lines g c = λ reason is.
    let sheet = g.V.Supports.sheet c.args.view.now in
    let u = sheet.universe in
    let own = c.as_slice-entries.ensures ∙ c.entries_of-found.ensures.exact in
    let head = with_entries sheet c.book-book.result.now c.book-book.ensures c.args.cell c.as_slice-entries.result.now own reason c.have_conflict.result (c.have_conflict.ensures reason is) (λ v es b. head_line v c.args.cell es b) in
    Writes-then (Writes-same head c.in_ok-write_head_line.ensures)
    (Writes-cut c.from_residual-in_err-write_value_lines.result (conflict_lines u reason (sort_of u c.args.cell) (entries_of c.args.cell sheet.entries)) c.from_residual-in_err-write_value_lines.ensures.0
    (c.in_err-write_value_lines.ensures reason is))

pub returns : goal.returns
returns g c = λ reason is.
    let sheet = g.V.Supports.sheet c.args.view.now in
    let u = sheet.universe in
    let own = c.as_slice-entries.ensures ∙ c.entries_of-found.ensures.exact in
    let head = with_entries sheet c.book-book.result.now c.book-book.ensures c.args.cell c.as_slice-entries.result.now own reason c.have_conflict.result (c.have_conflict.ensures reason is) (λ v es b. head_line v c.args.cell es b) in
    let sort : c.sort_of.result ≡ sort_of u c.args.cell = c.sort_of.ensures ∙ ap (λ (s : Sheet). sort_of s.universe c.args.cell) c.book-book.ensures in
    let lines = ap (λ s. conflict_lines u reason s c.as_slice-entries.result.now) sort
    ∙ ap (conflict_lines u reason (sort_of u c.args.cell)) (own_are sheet c.book-book.result.now c.book-book.ensures c.entries_of-found.ensures.formed c.args.cell c.as_slice-entries.result.now own) in
    Writes-then (Writes-same head c.in_ok-write_head_line.ensures) (Writes-then (c.in_ok-write_value_lines.ensures reason is) (Writes-same lines (c.write_conflict_lines.ensures reason is)))
