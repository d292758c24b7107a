use Rattle.std.proofs.Common.{arith}
use Rattle.pc_components.proofs.Linking.{first_is, none_first}
use Rattle.pc_components.proofs.turned.is_first.Goals as goal

pub returns-then-first-gt0 : goal.returns-then-first-gt0
returns-then-first-gt0 c = first_is c.args.place c.args.links.now c.args.first c.requires.linked c.if-first-gt0.true c.requires.first

pub returns-else-first-gt0 : goal.returns-else-first-gt0
returns-else-first-gt0 c = none_first c.args.place c.args.links.now c.args.first (omega (arith, c.if-first-gt0.false))
