use Rattle.std.proofs.Common.{arith}
use Rattle.pc_logic.proofs.UniformLemmas.{constant_from_each}
use Rattle.pc_logic.proofs.uniform.are_constant.Goals as goal

pub returns : goal.returns
returns c = λ _. constant_from_each c.args.terms.now (λ k d l. c.loop-term.invariant k d (omega arith))
