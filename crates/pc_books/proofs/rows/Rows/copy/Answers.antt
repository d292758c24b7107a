use Rattle.std.proofs.Common.{◌∙◌, ap, sym, subst, map}
use Rattle.std.proofs.lemmas.List.{take_all}
use Rattle.pc_sheet.specs.WellFormed.{AreDifferent}
use Rattle.pc_books.specs.Edits.{rows_with}
use Rattle.pc_books.specs.RowView.{row_of}
use Rattle.pc_books.proofs.RowLemmas.{copied_more}
use Rattle.pc_books.proofs.rows.Rows.copy.Goals as goal

pub loop-row-preserved : goal.loop-row-preserved
loop-row-preserved c =
    let items = c.as_slice-row-items.result.now in
    let different = subst AreDifferent (ap (map row_of) (sym c.as_slice-row-items.ensures.keys)) c.self.invariant in
    c.in_ok-add.ensures.ok
    ∙ ap (rows_with c.loop-row.copy) c.deref.ensures.value
    ∙ ap (λ rs. rows_with rs c.row-item.result.items) c.loop-row.invariant
    ∙ copied_more items c.loop-row.row-index c.row-item.result c.loop-row-test.true c.row-item.is different

pub returns : goal.returns
returns c =
    let items = c.as_slice-row-items.result.now in
    c.loop-row.invariant ∙ ap (map row_of) (take_all c.loop-row.row-index items c.loop-row-test.false ∙ c.as_slice-row-items.ensures.keys) ∙ c.self.view_is
