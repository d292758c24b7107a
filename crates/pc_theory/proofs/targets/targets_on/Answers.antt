use Rattle.std.proofs.Common.{◌++◌, take, ap, sym, ◌∙◌, get_or}
use Rattle.std.proofs.lemmas.List.{take_more, take_all}
use Rattle.std.proofs.lemmas.Option.{get_or_from_slice_get}
use Rattle.pc_sheet.specs.Entailment.{cell_sizes}
use Rattle.pc_sheet.specs.declared.ids.CellId.{CellId}
use Rattle.pc_theory.specs.Targets.{targets_on_cell, targets_on}
use Rattle.pc_theory.proofs.OnCells.{on_push}
use Rattle.pc_theory.proofs.targets.targets_on.Goals as goal

pub loop-cell-preserved : goal.loop-cell-preserved
loop-cell-preserved c =
    let sizes = cell_sizes c.args.book.now.universe in
    let cells = c.args.cells.now in
    let i = c.loop-cell.cell-index in
    let here : CellId = get_or cells i (record { 0 = 0 }) in
    c.in_ok-add_targets.ensures
    ∙ (ap (λ ts. ts ++ targets_on_cell here c.values_of.result) c.loop-cell.invariant
    ∙ (ap (λ n. targets_on sizes (take i cells) ++ targets_on_cell here n) (sym (get_or_from_slice_get sizes here.0 c.values_of.result 0 c.values_of.ensures.exact))
    ∙ (sym (on_push sizes (take i cells) here) ∙ ap (targets_on sizes) (sym (take_more cells i (record { 0 = 0 }) c.loop-cell-test.true)))))

pub returns : goal.returns
returns c = c.loop-cell.invariant ∙ ap (targets_on (cell_sizes c.args.book.now.universe)) (take_all c.loop-cell.cell-index c.args.cells.now c.loop-cell-test.false)
