use Rattle.pc_cert.proofs.Worked.{line_examples, set_examples, view_examples}
use Rattle.pc_cert.proofs.law.worked_lines.Goals as goal

pub returns-clause-forms : goal.returns-clause-forms
returns-clause-forms c = line_examples

pub returns-clause-views : goal.returns-clause-views
returns-clause-views c = view_examples

pub returns-clause-sets : goal.returns-clause-sets
returns-clause-sets c = set_examples
