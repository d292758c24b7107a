use mir.Val.{SFits, to_z, of_z}
use Rattle.std.proofs.Common.{◌≡◌, ◌∙◌, ℤ, ap, ap₂, map, sym, arith, rules, w64}
use Rattle.std.proofs.lemmas.Int.{ints}
use Rattle.pc_syntax.specs.Tree as tree
use Rattle.pc_syntax.specs.Tree.{declared_of, value_of}
use Rattle.pc_sortcheck.proofs.Outcomes.{told_of}
use Rattle.pc_sortcheck.proofs.sheet.declare.Goals as goal

pub returns-in-ListSort : goal.returns-in-ListSort
returns-in-ListSort c =
    told_of c.args.book.now c.declare_list.new.book c.declare_list.result (declared_of c.args.declaration.now) (tree.list_sort c.in-ListSort.name c.deref.result.now)
    (ap declared_of c.in-ListSort.is ∙ ap (tree.list_sort c.in-ListSort.name) (sym c.deref.ensures.value)) c.declare_list.ensures

pub returns-in-RangeSort : goal.returns-in-RangeSort
returns-in-RangeSort c =
    let low_fits : SFits w64 c.in-RangeSort.low = search rules in
    let high_fits : SFits w64 c.in-RangeSort.high = search rules in
    let low : c.in-RangeSort.low ≡ to_z w64 (of_z w64 c.in-RangeSort.low) = omega (arith, ints, low_fits) in
    let high : c.in-RangeSort.high ≡ to_z w64 (of_z w64 c.in-RangeSort.high) = omega (arith, ints, high_fits) in
    told_of c.args.book.now c.declare_range.new.book c.declare_range.result (declared_of c.args.declaration.now) (tree.range_sort c.in-RangeSort.name (to_z w64 (of_z w64 c.in-RangeSort.low)) (to_z w64 (of_z w64 c.in-RangeSort.high)))
    (ap declared_of c.in-RangeSort.is ∙ ap₂ (λ (a b : ℤ). tree.range_sort c.in-RangeSort.name a b) low high) c.declare_range.ensures

pub returns-in-Table : goal.returns-in-Table
returns-in-Table c =
    told_of c.args.book.now c.declare_table.new.book c.declare_table.result (declared_of c.args.declaration.now) (tree.table c.in-Table.name c.deref-in-Table.result.now)
    (ap declared_of c.in-Table.is ∙ ap (tree.table c.in-Table.name) (sym c.deref-in-Table.ensures.value)) c.declare_table.ensures

pub returns-in-Row : goal.returns-in-Row
returns-in-Row c =
    told_of c.args.book.now c.declare_row.new.book c.declare_row.result (declared_of c.args.declaration.now) (tree.row c.in-Row.table (map value_of c.deref-in-Row.result.now))
    (ap declared_of c.in-Row.is ∙ ap (λ xs. tree.row c.in-Row.table (map value_of xs)) (sym c.deref-in-Row.ensures.value)) c.declare_row.ensures

pub returns-in-Cell : goal.returns-in-Cell
returns-in-Cell c =
    told_of c.args.book.now c.declare_cell.new.book c.declare_cell.result (declared_of c.args.declaration.now) (tree.cell c.in-Cell.name c.deref-in-Cell.result.now c.in-Cell.result)
    (ap declared_of c.in-Cell.is ∙ ap (λ ss. tree.cell c.in-Cell.name ss c.in-Cell.result) (sym c.deref-in-Cell.ensures.value)) c.declare_cell.ensures

pub returns-in-Rule : goal.returns-in-Rule
returns-in-Rule c =
    told_of c.args.book.now c.declare_rule.new.book c.declare_rule.result (declared_of c.args.declaration.now) (tree.rule c.in-Rule.rule.name (tree.formula_of c.in-Rule.rule.formula))
    (ap declared_of c.in-Rule.is) c.declare_rule.ensures

pub returns-in-Enter : goal.returns-in-Enter
returns-in-Enter c =
    told_of c.args.book.now c.declare_entry.new.book c.declare_entry.result (declared_of c.args.declaration.now) (tree.enter (tree.cell_of c.in-Enter.cell) (value_of c.in-Enter.value))
    (ap declared_of c.in-Enter.is) c.declare_entry.ensures

pub returns-in-Also : goal.returns-in-Also
returns-in-Also c =
    told_of c.args.book.now c.declare_further_entry.new.book c.declare_further_entry.result (declared_of c.args.declaration.now) (tree.also (tree.cell_of c.in-Also.cell) (value_of c.in-Also.value))
    (ap declared_of c.in-Also.is) c.declare_further_entry.ensures
