use Rattle.std.proofs.Common.{◌≡◌, ℕ, List, [], ◌∷◌, ◌++◌, codes, ◌∙◌, append_assoc, subst, sym}
use Rattle.pc_sheet.specs.Sheet.{Sheet}
use Rattle.pc_sheet.specs.WellFormed.{entries_of}
use Rattle.pc_sheet.specs.declared.ids.CellId.{CellId}
use Rattle.pc_writer.specs.Spelling.{cell_text, family_of}
use Rattle.pc_writer.proofs.InTurn.{Writes-then, Writes-cut, Writes-same}
use Rattle.pc_display.specs.Supports.{Reasoning}
use Rattle.pc_display.specs.Show.{have_conflict, listed_texts}
use Rattle.pc_display.specs.Grid.{conflict_column, entry_column, grid_line, implied_texts, padded}
use Rattle.pc_display.specs.inside.Columns.{front_text}
use Rattle.pc_display.specs.inside.Names.{IsAsWide}
use Rattle.pc_display.proofs.SheetLemmas.{book_values, own_few, own_fit, with_entries}
use Rattle.pc_display.proofs.table.write_grid_line.Goals as goal

regroup : (cell entry mark list : List ℕ) → (cell ++ (codes "  " ++ (entry ++ (codes "  " ++ (mark ++ codes "  "))))) ++ (list ++ 10 ∷ [])
    ≡ (cell ++ (codes "  " ++ (entry ++ (codes "  " ++ (mark ++ (codes "  " ++ list)))))) ++ 10 ∷ []
regroup cell entry mark list = simp append_assoc

-- all columns but the last, the last, and the end of the line
line_is : (sheet : Sheet) (reason : Reasoning) (cell_width entry_width : ℕ) (c : CellId)
    → front_text sheet.universe cell_width entry_width c (entries_of c sheet.entries) (have_conflict reason (entries_of c sheet.entries)) ++ (listed_texts (implied_texts sheet.universe reason c) ++ 10 ∷ [])
    ≡ grid_line sheet reason cell_width entry_width c
line_is sheet reason cell_width entry_width c =
    regroup (padded cell_width (cell_text sheet.universe c)) (padded entry_width (entry_column sheet c)) (conflict_column (have_conflict reason (entries_of c sheet.entries))) (listed_texts (implied_texts sheet.universe reason c))

pub have_conflict-clashes-requires : goal.have_conflict-clashes-requires
have_conflict-clashes-requires g c =
    own_fit (g.V.Supports.sheet c.args.view.now) c.book-book.result.now c.book-book.ensures c.entries_of-found.ensures.formed c.args.cell c.as_slice-entries.result.now (c.as_slice-entries.ensures ∙ c.entries_of-found.ensures.exact)

pub write_front-requires-clause-name : goal.write_front-requires-clause-name
write_front-requires-clause-name g c = subst (λ (s : Sheet). IsAsWide (family_of s.universe c.args.cell) c.args.name) (sym c.book-book.ensures) c.requires.name

pub write_front-requires-clause-few : goal.write_front-requires-clause-few
write_front-requires-clause-few g c =
    own_few (g.V.Supports.sheet c.args.view.now) c.book-book.result.now c.book-book.ensures c.entries_of-found.ensures.formed c.args.cell c.as_slice-entries.result.now (c.as_slice-entries.ensures ∙ c.entries_of-found.ensures.exact)

pub write_front-requires-clause-values : goal.write_front-requires-clause-values
write_front-requires-clause-values g c =
    book_values c.book-book.result.now c.entries_of-found.ensures.formed c.args.cell c.as_slice-entries.result.now (c.as_slice-entries.ensures ∙ c.entries_of-found.ensures.exact)

pub returns-in_err-write_front : goal.returns-in_err-write_front
returns-in_err-write_front g c = λ reason is.
    let sheet = g.V.Supports.sheet c.args.view.now in
    let widths = c.args.widths in
    let front = with_entries sheet c.book-book.result.now c.book-book.ensures c.args.cell c.as_slice-entries.result.now (c.as_slice-entries.ensures ∙ c.entries_of-found.ensures.exact) reason c.have_conflict-clashes.result (c.have_conflict-clashes.ensures reason is)
    (λ u es b. front_text u widths.cell widths.entry c.args.cell es b) in
    Writes-same (line_is sheet reason widths.cell widths.entry c.args.cell)
    (Writes-cut c.from_residual.result (listed_texts (implied_texts sheet.universe reason c.args.cell) ++ 10 ∷ []) c.from_residual.ensures.0 (Writes-same front c.in_err-write_front.ensures))

pub returns-in_err-write_implied : goal.returns-in_err-write_implied
returns-in_err-write_implied g c = λ reason is.
    let sheet = g.V.Supports.sheet c.args.view.now in
    let widths = c.args.widths in
    let front = with_entries sheet c.book-book.result.now c.book-book.ensures c.args.cell c.as_slice-entries.result.now (c.as_slice-entries.ensures ∙ c.entries_of-found.ensures.exact) reason c.have_conflict-clashes.result (c.have_conflict-clashes.ensures reason is)
    (λ u es b. front_text u widths.cell widths.entry c.args.cell es b) in
    Writes-same (line_is sheet reason widths.cell widths.entry c.args.cell)
    (Writes-then (Writes-same front c.in_ok-write_front.ensures)
    (Writes-cut c.from_residual-in_err-write_implied.result (10 ∷ []) c.from_residual-in_err-write_implied.ensures.0 (c.in_err-write_implied.ensures reason is)))

pub returns : goal.returns
returns g c = λ reason is.
    let sheet = g.V.Supports.sheet c.args.view.now in
    let widths = c.args.widths in
    let front = with_entries sheet c.book-book.result.now c.book-book.ensures c.args.cell c.as_slice-entries.result.now (c.as_slice-entries.ensures ∙ c.entries_of-found.ensures.exact) reason c.have_conflict-clashes.result (c.have_conflict-clashes.ensures reason is)
    (λ u es b. front_text u widths.cell widths.entry c.args.cell es b) in
    Writes-same (line_is sheet reason widths.cell widths.entry c.args.cell)
    (Writes-then (Writes-same front c.in_ok-write_front.ensures) (Writes-then (c.in_ok-write_implied.ensures reason is) c.write_text.ensures))
