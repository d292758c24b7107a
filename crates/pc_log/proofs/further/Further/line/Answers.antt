use Rattle.std.proofs.Common.{ap, length, arith}
use Rattle.pc_log.proofs.LineLemmas.{count_of_lines, line_read, row_there}
use Rattle.pc_log.specs.declared.further.Kind.TheVariants.{Block, Step}
use Rattle.pc_log.proofs.further.Further.line.Goals as goal

pub get-clause-requires : goal.get-clause-requires
get-clause-requires c = omega (arith, c.self.invariant.clause_each, count_of_lines _ _ _ c.self.invariant, ap length c.self.view_is, c.requires)

pub index-requires : goal.index-requires
index-requires c = omega (arith, c.self.inside.kinds.ok.0, count_of_lines _ _ _ c.self.invariant, ap length c.self.view_is, c.requires)

pub get-requires : goal.get-requires
get-requires c = omega (arith, c.self.invariant.hints_each, count_of_lines _ _ _ c.self.invariant, ap length c.self.view_is, c.requires)

pub returns-in-Block : goal.returns-in-Block
returns-in-Block c = line_read _ _ _ _ _ _ (Block c.in-Block.block) _ _ c.self.invariant c.self.view_is c.requires c.index.ensures c.in-Block.is c.get-clause.ensures (row_there _ _ _ _ _ c.self.invariant c.self.view_is c.requires)

pub returns-in-Step : goal.returns-in-Step
returns-in-Step c = line_read _ _ _ _ _ _ (Step c.in-Step.learned) _ _ c.self.invariant c.self.view_is c.requires c.index.ensures c.in-Step.is c.get-clause.ensures c.get.ensures
