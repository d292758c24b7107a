use Rattle.pc_theorem.proofs.OneState.{answers_leave_one_state, transcripts_leave_one_state}
use Rattle.pc_theorem.proofs.law.answers_leave_one_state.Goals as goal

pub returns-clause-answer : goal.returns-clause-answer
returns-clause-answer c = answers_leave_one_state c.lines_have_one_verdict.ensures

pub returns-clause-transcript : goal.returns-clause-transcript
returns-clause-transcript c = transcripts_leave_one_state c.lines_have_one_verdict.ensures c.states_are_well_formed.ensures.answers
