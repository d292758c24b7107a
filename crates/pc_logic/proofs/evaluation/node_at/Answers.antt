use Rattle.pc_logic.proofs.evaluation.node_at.Goals as goal

pub kind_at-requires-clause-sound : goal.kind_at-requires-clause-sound
kind_at-requires-clause-sound c = c.scheme.ensures.sound

pub kind_at-requires-clause-bounded : goal.kind_at-requires-clause-bounded
kind_at-requires-clause-bounded c = c.bounded_rules.ensures.bounded
