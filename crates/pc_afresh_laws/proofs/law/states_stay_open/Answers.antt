use Rattle.pc_afresh_laws.proofs.StayOpen.{starts_are_open, answers_keep_open}
use Rattle.pc_afresh_laws.proofs.law.states_stay_open.Goals as goal

pub returns-clause-starts : goal.returns-clause-starts
returns-clause-starts c = starts_are_open c.states_are_well_formed.ensures.starts

pub returns-clause-answers : goal.returns-clause-answers
returns-clause-answers c = answers_keep_open c.states_are_well_formed.ensures.answers
