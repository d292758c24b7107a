use Rattle.std.proofs.Common.{refl}
use Rattle.pc_journal.specs.Course.{awaits_file}
use Rattle.pc_journal.proofs.law.merges_ask_first.Goals as goal

pub returns : goal.returns
returns c = λ file. awaits_file refl
