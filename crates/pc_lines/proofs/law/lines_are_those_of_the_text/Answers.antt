use Rattle.pc_lines.proofs.SameLines.{same_lines}
use Rattle.pc_lines.proofs.law.lines_are_those_of_the_text.Goals as goal

pub returns-clause-same : goal.returns-clause-same
returns-clause-same c = same_lines
