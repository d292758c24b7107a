use Rattle.pc_books.specs.declared.names.Named.TheVariants as named
use Rattle.pc_elaborate.proofs.NamedAs.{kind_some, kind_none}
use Rattle.pc_elaborate.proofs.names.table_named.Goals as goal

pub returns-in-Some-Sort : goal.returns-in-Some-Sort
returns-in-Some-Sort c = kind_none c.args.book.now.universe c.args.name.now c.as_str.result.now c.as_str.ensures.text c.look_up.result c.look_up.ensures.exact named.Table (λ y e. cc)

pub returns-in-Some-Table : goal.returns-in-Some-Table
returns-in-Some-Table c = kind_some c.args.book.now.universe c.args.name.now c.as_str.result.now c.as_str.ensures.text c.look_up.result c.look_up.ensures.exact named.Table c.in-Some-Table.table (λ y e. cc) (cc)

pub returns-in-Some-Family : goal.returns-in-Some-Family
returns-in-Some-Family c = kind_none c.args.book.now.universe c.args.name.now c.as_str.result.now c.as_str.ensures.text c.look_up.result c.look_up.ensures.exact named.Table (λ y e. cc)

pub returns-in-Some-Value : goal.returns-in-Some-Value
returns-in-Some-Value c = kind_none c.args.book.now.universe c.args.name.now c.as_str.result.now c.as_str.ensures.text c.look_up.result c.look_up.ensures.exact named.Table (λ y e. cc)

pub returns-in-None : goal.returns-in-None
returns-in-None c = kind_none c.args.book.now.universe c.args.name.now c.as_str.result.now c.as_str.ensures.text c.look_up.result c.look_up.ensures.exact named.Table (λ y e. cc)
