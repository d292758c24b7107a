use Rattle.pc_worked_laws.proofs.TranscriptsHold.{transcripts, answers}
use Rattle.pc_worked_laws.proofs.worked.transcripts_are_worked.Goals as goal

pub returns-clause-legal : goal.returns-clause-legal
returns-clause-legal c = transcripts

pub returns-clause-answered : goal.returns-clause-answered
returns-clause-answered c = answers
