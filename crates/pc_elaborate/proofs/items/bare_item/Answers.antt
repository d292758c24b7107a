use Rattle.pc_elaborate.specs.Told.{variables_of}
use Rattle.pc_books.specs.declared.names.Named.TheVariants as names
use Rattle.pc_elaborate.proofs.ItemTold.{stands_for, variable_told, value_told, sort_is_no_item, table_is_no_item}
use Rattle.pc_elaborate.proofs.items.bare_item.Goals as goal

pub returns-in-Some : goal.returns-in-Some
returns-in-Some c = variable_told c.args.book.now.universe (variables_of c.args.variables.now) c.args.name.now c.in-Some.k c.in-Some.sort c.requires c.in-Some.ensures.some

pub only_cell-requires-clause-family : goal.only_cell-requires-clause-family
only_cell-requires-clause-family c = stands_for c.args.book.now.universe c.args.name.now c.as_str.result.now c.as_str.ensures.text c.look_up.result c.look_up.ensures.exact (names.Family c.in-Some-Family.family) (cc)

pub returns-in-Some-Sort : goal.returns-in-Some-Sort
returns-in-Some-Sort c = sort_is_no_item c.args.book.now.universe (variables_of c.args.variables.now) c.args.name.now c.in-Some-Sort.field-0-0 (stands_for c.args.book.now.universe c.args.name.now c.as_str.result.now c.as_str.ensures.text c.look_up.result c.look_up.ensures.exact (names.Sort c.in-Some-Sort.field-0-0) (cc))

pub returns-in-Some-Table : goal.returns-in-Some-Table
returns-in-Some-Table c = table_is_no_item c.args.book.now.universe (variables_of c.args.variables.now) c.args.name.now c.in-Some-Table.field-0-0 (stands_for c.args.book.now.universe c.args.name.now c.as_str.result.now c.as_str.ensures.text c.look_up.result c.look_up.ensures.exact (names.Table c.in-Some-Table.field-0-0) (cc))

pub returns-in-Some-Value : goal.returns-in-Some-Value
returns-in-Some-Value c = value_told c.args.book.now.universe (variables_of c.args.variables.now) c.args.name.now c.in-Some-Value.sort c.in-Some-Value.value (stands_for c.args.book.now.universe c.args.name.now c.as_str.result.now c.as_str.ensures.text c.look_up.result c.look_up.ensures.exact (names.Value c.in-Some-Value.sort c.in-Some-Value.value) (cc))
