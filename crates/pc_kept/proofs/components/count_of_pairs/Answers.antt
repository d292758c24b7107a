use Rattle.std.proofs.Common.{arith, sum}
use Rattle.pc_sheet.specs.Entailment.{cell_sizes}
use Rattle.pc_kept.proofs.ByParts.{sum_more}
use Rattle.pc_kept.proofs.components.count_of_pairs.Goals as goal

pub loop-cell-preserved : goal.loop-cell-preserved
loop-cell-preserved c =
    let sizes = cell_sizes c.args.book.now.universe in
    let l = c.loop-cell in
    record { so_far = sum_more sizes l.cell c.values_of.result l.count (sum sizes) c.values_of.ensures.exact l.invariant.so_far; few = omega (arith, l.invariant.few, c.values_of.ensures.few) }
