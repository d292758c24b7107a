use Rattle.std.proofs.Common.{◌≡◌, ◌+◌, length, slice_get, IsSomeAnd, arith}
use Rattle.pc_sortcheck.proofs.Rows.{rows_more, rows_below}
use Rattle.pc_sortcheck.proofs.tables.count_rows.Goals as goal

pub overflow_add-rows : goal.overflow_add-rows
overflow_add-rows c =
    let ts = c.args.book.now.universe.tables in
    let here : IsSomeAnd (slice_get ts c.loop-i.i) (λ d. c.rows-rows.result ≡ length d.rows) = c.rows-rows.ensures in
    omega (arith, rows_more ts c.loop-i.i c.rows-rows.result here, rows_below ts (c.loop-i.i + 1), c.keeps_form.ensures.universe.row_limit)

pub loop-i-preserved : goal.loop-i-preserved
loop-i-preserved c =
    let ts = c.args.book.now.universe.tables in
    let here : IsSomeAnd (slice_get ts c.loop-i.i) (λ d. c.rows-rows.result ≡ length d.rows) = c.rows-rows.ensures in
    omega (arith, rows_more ts c.loop-i.i c.rows-rows.result here)
