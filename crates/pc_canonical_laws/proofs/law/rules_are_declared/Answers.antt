use Rattle.pc_canonical_laws.proofs.Rules.{rules_given}
use Rattle.pc_canonical_laws.proofs.law.rules_are_declared.Goals as goal

pub returns : goal.returns
returns c = rules_given
