use Rattle.pc_theorem.proofs.WrongPages.{broken_replies}
use Rattle.pc_theorem.proofs.wrong.broken_replies.Goals as goal

pub returns : goal.returns
returns c = broken_replies c.one_reading.ensures.command c.lines_have_one_verdict.ensures
