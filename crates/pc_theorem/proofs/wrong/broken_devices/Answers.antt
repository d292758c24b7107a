use Rattle.pc_theorem.proofs.WrongChecks.{broken_devices}
use Rattle.pc_theorem.proofs.wrong.broken_devices.Goals as goal

pub returns : goal.returns
returns c = broken_devices
