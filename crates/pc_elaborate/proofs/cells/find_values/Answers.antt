use Rattle.std.proofs.Common.{◌≤◌, length, map, get_or, arith}
use Rattle.std.proofs.lemmas.List.{get_or_default}
use Rattle.std.proofs.lemmas.Result.{err_from_is_err_and}
use Rattle.pc_sheet.specs.declared.ids.SortId.{SortId}
use Rattle.pc_formula.specs.Tree.{value_of}
use Rattle.pc_elaborate.proofs.Unique.{names_are_unique}
use Rattle.pc_elaborate.proofs.CellWalk.{every_value, values_at_fault, values_ok, values_err}
use Rattle.pc_elaborate.proofs.cells.find_values.Goals as goal

pub returns-in_err-into-clause-exact : goal.returns-in_err-into-clause-exact
returns-in_err-into-clause-exact c =
    let u = c.args.book.now.universe in
    let unique = names_are_unique u c.well_formed-2.ensures.universe.different in
    let s = c.loop-i in
    let d : SortId = record { 0 = 0 } in
    let id = get_or c.args.sorts.now s.i d in
    let e = values_at_fault u c.args.sorts.now c.args.values.now s.i s.into id c.index-values-i.result c.in_err-into.field-0.0 c.loop-i-test.true c.requires.count (get_or_default c.args.sorts.now s.i d id c.loop-i-test.true) c.index-values-i.is s.invariant.0 c.in_err-into.ensures.exact.told in
    let p = err_from_is_err_and c.from_residual.result c.from_residual.ensures.1 in
    rw (p.1, p.2) (values_err u unique c.args.sorts.now (map value_of c.args.values.now) s.into c.in_err-into.field-0.0 e)

pub returns-clause-exact : goal.returns-clause-exact
returns-clause-exact c =
    let u = c.args.book.now.universe in
    let unique = names_are_unique u c.well_formed-2.ensures.universe.different in
    let s = c.loop-i in
    let l : length c.args.sorts.now ≤ s.i = omega arith in
    values_ok u unique c.args.sorts.now (map value_of c.args.values.now) s.into tt (every_value u c.args.sorts.now c.args.values.now s.i s.into l c.requires.count s.invariant.1 s.invariant.0).0

pub returns-clause-within : goal.returns-clause-within
returns-clause-within c =
    let s = c.loop-i in
    let l : length c.args.sorts.now ≤ s.i = omega arith in
    (every_value c.args.book.now.universe c.args.sorts.now c.args.values.now s.i s.into l c.requires.count s.invariant.1 s.invariant.0).1
