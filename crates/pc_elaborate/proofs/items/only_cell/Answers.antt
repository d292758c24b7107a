use Rattle.std.proofs.Common.{◌≡◌, [], length, ap, arith}
use Rattle.pc_elaborate.specs.Told.{variables_of}
use Rattle.pc_elaborate.proofs.Unique.{names_are_unique}
use Rattle.pc_elaborate.proofs.ItemTold.{only_cell_arity, only_cell_told, family_below}
use Rattle.pc_elaborate.proofs.items.only_cell.Goals as goal

pub returns-then-not-is_empty : goal.returns-then-not-is_empty
returns-then-not-is_empty c =
    let u = c.args.book.now.universe in
    let some : c.argument_sorts.result.now ≡ [] → ⊥ = λ e. let n = ap length e in grind arith in
    only_cell_arity u (names_are_unique u c.well_formed-2.ensures.universe.different) (variables_of c.args.variables.now) c.args.name.now c.args.family c.argument_sorts.result.now c.requires.family c.argument_sorts.ensures.takes some

pub result_sort-requires : goal.result_sort-requires
result_sort-requires c = family_below c.args.book.now.universe c.args.name.now c.args.family c.requires.family

pub returns : goal.returns
returns c =
    let e : length c.argument_sorts.result.now ≡ 0 = grind arith in
    only_cell_told c.args.book.now.universe (variables_of c.args.variables.now) c.args.family c.new-args.result c.result_sort.result c.argument_sorts.result.now c.argument_sorts.ensures.takes c.result_sort.ensures c.args.name.now c.well_formed-2.ensures.universe c.requires.family e c.new-args.ensures.items
