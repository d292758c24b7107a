use Rattle.std.proofs.Common.{arith}
use Rattle.pc_logic.proofs.UniformLemmas.{uniform_from_each}
use Rattle.pc_logic.proofs.uniform.+uniform.Goals as goal

pub are_uniform-returns : goal.are_uniform-returns
are_uniform-returns t c = λ _. uniform_from_each c.args.parts.now (λ k d l. c.loop-part.invariant k d (omega arith))
