use Rattle.pc_elaborate.proofs.NamedAs.{value_some, value_none}
use Rattle.pc_elaborate.proofs.names.value_named.Goals as goal

pub returns-in-Some-Value : goal.returns-in-Some-Value
returns-in-Some-Value c = value_some c.args.book.now.universe c.args.name.now c.as_str.result.now c.as_str.ensures.text c.look_up.result c.look_up.ensures.exact c.in-Some-Value.sort c.in-Some-Value.value (cc)

pub returns-in-Some-Sort : goal.returns-in-Some-Sort
returns-in-Some-Sort c = value_none c.args.book.now.universe c.args.name.now c.as_str.result.now c.as_str.ensures.text c.look_up.result c.look_up.ensures.exact (λ s v e. cc)

pub returns-in-Some-Table : goal.returns-in-Some-Table
returns-in-Some-Table c = value_none c.args.book.now.universe c.args.name.now c.as_str.result.now c.as_str.ensures.text c.look_up.result c.look_up.ensures.exact (λ s v e. cc)

pub returns-in-Some-Family : goal.returns-in-Some-Family
returns-in-Some-Family c = value_none c.args.book.now.universe c.args.name.now c.as_str.result.now c.as_str.ensures.text c.look_up.result c.look_up.ensures.exact (λ s v e. cc)

pub returns-in-None : goal.returns-in-None
returns-in-None c = value_none c.args.book.now.universe c.args.name.now c.as_str.result.now c.as_str.ensures.text c.look_up.result c.look_up.ensures.exact (λ s v e. cc)
