use Rattle.pc_elaborate.specs.Told.{variables_of}
use Rattle.pc_books.specs.declared.names.Named.TheVariants as names
use Rattle.pc_elaborate.proofs.Unique.{names_are_unique}
use Rattle.pc_elaborate.proofs.ItemTold.{stands_for, other_applied, bound_name}
use Rattle.pc_elaborate.proofs.items.applied_family.Goals as goal

pub returns-in-Some-Family : goal.returns-in-Some-Family
returns-in-Some-Family c = stands_for c.args.book.now.universe c.args.name.now c.as_str.result.now c.as_str.ensures.text c.look_up.result c.look_up.ensures.exact (names.Family c.in-Some-Family.family) (cc)

pub returns-in-Some-Sort : goal.returns-in-Some-Sort
returns-in-Some-Sort c = other_applied c.args.book.now.universe (names_are_unique c.args.book.now.universe c.well_formed-2.ensures.universe.different) (variables_of c.args.variables.now) c.args.name.now (names.Sort c.in-Some-Sort.field-0-0) (stands_for c.args.book.now.universe c.args.name.now c.as_str.result.now c.as_str.ensures.text c.look_up.result c.look_up.ensures.exact (names.Sort c.in-Some-Sort.field-0-0) (cc)) (λ f e. cc)

pub returns-in-Some-Table : goal.returns-in-Some-Table
returns-in-Some-Table c = other_applied c.args.book.now.universe (names_are_unique c.args.book.now.universe c.well_formed-2.ensures.universe.different) (variables_of c.args.variables.now) c.args.name.now (names.Table c.in-Some-Table.field-0-0) (stands_for c.args.book.now.universe c.args.name.now c.as_str.result.now c.as_str.ensures.text c.look_up.result c.look_up.ensures.exact (names.Table c.in-Some-Table.field-0-0) (cc)) (λ f e. cc)

pub returns-in-Some-Value : goal.returns-in-Some-Value
returns-in-Some-Value c = other_applied c.args.book.now.universe (names_are_unique c.args.book.now.universe c.well_formed-2.ensures.universe.different) (variables_of c.args.variables.now) c.args.name.now (names.Value c.in-Some-Value.field-0-0 c.in-Some-Value.field-0-1) (stands_for c.args.book.now.universe c.args.name.now c.as_str.result.now c.as_str.ensures.text c.look_up.result c.look_up.ensures.exact (names.Value c.in-Some-Value.field-0-0 c.in-Some-Value.field-0-1) (cc)) (λ f e. cc)

pub returns-in-Some : goal.returns-in-Some
returns-in-Some c =
    let u = c.args.book.now.universe in
    bound_name u (names_are_unique u c.well_formed-2.ensures.universe.different) (variables_of c.args.variables.now) c.args.name.now c.in-Some.field-0.0 c.in-Some.field-0.1 c.requires c.in-Some.ensures.some
