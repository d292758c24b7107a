use Rattle.std.proofs.Common.{rules}
use Rattle.pc_elaborate.proofs.NamedAs.{other_name, no_name}
use Rattle.pc_elaborate.proofs.names.name_fault.Goals as goal

pub returns-in-None : goal.returns-in-None
returns-in-None c = no_name c.args.book.now.universe c.args.name.now c.as_str.result.now c.as_str.ensures.text c.look_up.result c.look_up.ensures.exact c.look_up.ensures.undeclared (search rules)

pub returns-in-Some : goal.returns-in-Some
returns-in-Some c = other_name c.args.book.now.universe c.args.name.now c.as_str.result.now c.as_str.ensures.text c.look_up.result c.look_up.ensures.exact c.in-Some.field-0 c.in-Some.is
