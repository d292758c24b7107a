use Rattle.pc_enough_laws.proofs.Bytes.{bytes_bounded}
use Rattle.pc_enough_laws.proofs.laws.spent_bytes_are_bounded.Goals as goal

pub returns : goal.returns
returns c = bytes_bounded
