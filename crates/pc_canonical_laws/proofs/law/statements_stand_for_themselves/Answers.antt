use Rattle.pc_canonical_laws.proofs.StandingTrees.{statement_stands}
use Rattle.pc_canonical_laws.proofs.law.statements_stand_for_themselves.Goals as goal

pub returns : goal.returns
returns c = statement_stands
