use Rattle.pc_theorem.proofs.WrongSessions.{broken_sessions}
use Rattle.pc_theorem.proofs.wrong.broken_sessions.Goals as goal

pub returns : goal.returns
returns c = broken_sessions c.one_reading.ensures.command c.dumps_start_again.ensures c.texts_have_one_outcome.ensures c.lines_have_one_verdict.ensures
