use Rattle.std.proofs.Common.{◌≡◌, ap, arith, map, length, sym, subst, ◌∙◌}
use Rattle.pc_syntax.specs.Tree.{value_of}
use Rattle.pc_sortcheck.specs.inside.Fits.{AreRowOf}
use Rattle.pc_sortcheck.proofs.Rows.{all_written}
use Rattle.pc_sortcheck.proofs.tables.find_row.Goals as goal

pub find_values-requires-clause-room : goal.find_values-requires-clause-room
find_values-requires-clause-room c = omega (arith, ap length c.deref_mut.ensures.value)

pub returns : goal.returns
returns c =
    let long : length c.find_values.new.into ≡ length c.deref_mut.result.now = c.find_values.auto.into in
    let items : length c.deref_mut.result.now ≡ length c.loop.row.items = ap length c.deref_mut.ensures.value in
    let whole : length c.deref_mut.result.now ≡ c.loop.row.len = c.deref_mut.ensures.len in
    let len : c.loop.row.len ≡ length c.loop.row.items = sym whole ∙ items in
    let same = all_written c.loop.row.len c.find_values.new.into c.loop.row.items (long ∙ items) len in
    subst (AreRowOf c.args.book.now.universe c.args.table (map value_of c.args.values.now)) (sym same) (c.sorts_of_table-sorts.result.now, c.sorts_of_table-sorts.ensures.sorts, c.in_ok-find_values.ensures.exact.told)
