use Rattle.std.proofs.Common.{arith}
use Rattle.pc_checker.proofs.DerivationLemmas.{ends}
use Rattle.pc_checker.proofs.derivation.ends_among.Goals as goal

pub returns-clause-among : goal.returns-clause-among
returns-clause-among c = ends c.args.clauses.now c.args.allowed.now c.get.result.now c.are_among.result (omega arith) (rw c.len-count.ensures at c.get.ensures) c.are_among.ensures.among
