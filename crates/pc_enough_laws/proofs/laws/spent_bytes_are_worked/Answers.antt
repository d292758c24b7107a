use Rattle.pc_enough_laws.proofs.Bytes.{bytes_hold}
use Rattle.pc_enough_laws.proofs.laws.spent_bytes_are_worked.Goals as goal

pub returns : goal.returns
returns c = bytes_hold
