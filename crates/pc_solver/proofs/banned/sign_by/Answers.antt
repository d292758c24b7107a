use Rattle.std.proofs.Common.{sym, None, arith}
use Rattle.std.proofs.lemmas.List.{get_or_past}
use Rattle.pc_solver.proofs.banned.sign_by.Goals as goal

pub returns-then-variable-len : goal.returns-then-variable-len
returns-then-variable-len c = sym (get_or_past c.args.values.now c.args.variable.0 None (omega (arith, c.if-variable-len.true, c.len.ensures)))
