use Rattle.std.proofs.Common.{arith}
use Rattle.pc_support.proofs.WordLemmas.{in_both}
use Rattle.pc_support.proofs.words.meet.Goals as goal

pub returns-clause-both : goal.returns-clause-both
returns-clause-both c =
    in_both c.loop-at.words.items c.args.some.now c.args.others.now (let size = c.loop-at.invariant.size in omega (arith, size)) (λ at below. c.loop-at.invariant.each at (omega arith))
