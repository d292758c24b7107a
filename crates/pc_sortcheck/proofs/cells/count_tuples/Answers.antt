use Rattle.std.proofs.Common.{arith, ◌+◌, ◌*◌, ◌^◌, ◌≤◌}
use Rattle.pc_books.proofs.Sizes.{power_four, product_more}
use Rattle.pc_sortcheck.proofs.cells.count_tuples.Goals as goal

pub overflow_mul-tuples : goal.overflow_mul-tuples
overflow_mul-tuples c =
    let l = c.loop-sort in
    let more : l.tuples * c.size_of_sort-tuples.result ≤ 256 ^ (l.sort-index + 1) = product_more l.tuples c.size_of_sort-tuples.result l.sort-index l.invariant.small c.size_of_sort-tuples.ensures.few in
    let most : 256 ^ (l.sort-index + 1) ≤ 2 ^ 32 = power_four (l.sort-index + 1) (omega arith) in
    omega arith

pub returns-clause-small : goal.returns-clause-small
returns-clause-small c =
    let most : 256 ^ c.loop-sort.sort-index ≤ 2 ^ 32 = power_four c.loop-sort.sort-index (omega arith) in
    omega (arith, c.loop-sort.invariant.small)
