use Rattle.pc_logic.proofs.evaluation.weight.Goals as goal

pub weigh-requires-clause-sound : goal.weigh-requires-clause-sound
weigh-requires-clause-sound c = c.scheme.ensures.sound

pub weigh-requires-clause-depths : goal.weigh-requires-clause-depths
weigh-requires-clause-depths c = c.bounded_rules.ensures.shallow

pub weigh-requires-clause-bounded : goal.weigh-requires-clause-bounded
weigh-requires-clause-bounded c = c.bounded_rules.ensures.bounded
