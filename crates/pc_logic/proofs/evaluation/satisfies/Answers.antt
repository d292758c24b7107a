use Rattle.pc_logic.proofs.evaluation.satisfies.Goals as goal

pub rules_hold-requires-clause-small : goal.rules_hold-requires-clause-small
rules_hold-requires-clause-small c = c.scheme.ensures.sound

pub rules_hold-requires-clause-depths : goal.rules_hold-requires-clause-depths
rules_hold-requires-clause-depths c = c.bounded_rules.ensures.shallow
