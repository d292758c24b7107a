use Rattle.pc_token.proofs.Once as once
use Rattle.pc_token.proofs.law.one_reading.Goals as goal

pub returns : goal.returns
returns c = once.one_reading
