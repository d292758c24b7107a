use Rattle.std.proofs.Common.{arith}
use Rattle.pc_logic.proofs.UniformLemmas.{all_fixed_from_each}
use Rattle.pc_logic.proofs.uniform.all_fixed.Goals as goal

pub returns : goal.returns
returns c = λ _. all_fixed_from_each c.args.items.now (λ k d l. c.loop-term.invariant k d (omega arith))
