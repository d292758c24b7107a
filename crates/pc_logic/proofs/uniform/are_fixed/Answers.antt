use Rattle.std.proofs.Common.{arith}
use Rattle.pc_logic.proofs.UniformLemmas.{fixed_from_each}
use Rattle.pc_logic.proofs.uniform.are_fixed.Goals as goal

pub returns : goal.returns
returns c = λ _. fixed_from_each c.args.terms.now (λ k d l. c.loop-term.invariant k d (omega arith))
