use Rattle.pc_canonical_laws.proofs.Lines.{rule_reads_back}
use Rattle.pc_canonical_laws.proofs.law.rule_lines_read_back.Goals as goal

pub returns : goal.returns
returns c = λ u r formed well. (rule_reads_back u r formed well).is
