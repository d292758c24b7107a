use Rattle.pc_logic.proofs.evaluation.eval.Goals as goal

pub rule_holds-requires-clause-small : goal.rule_holds-requires-clause-small
rule_holds-requires-clause-small c = c.scheme.ensures.sound

pub rule_holds-requires-clause-depths : goal.rule_holds-requires-clause-depths
rule_holds-requires-clause-depths c = c.bounded_rules.ensures.shallow
