use Rattle.pc_canonical_laws.proofs.Entries.{entries_given}
use Rattle.pc_canonical_laws.proofs.law.entries_are_declared.Goals as goal

pub returns : goal.returns
returns c = entries_given
