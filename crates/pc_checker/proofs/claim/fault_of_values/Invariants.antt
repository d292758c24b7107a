use Rattle.std.proofs.Common.{map, take}
use Rattle.pc_accept.specs.Accepts.{AreInCellOrder}
use Rattle.pc_cert.specs.Text.{entry_said}
use Rattle.pc_cert.specs.Views.{said_of}
use Rattle.pc_checker.proofs.claim.fault_of_values.Given as goal

abbrev pub invariant-loop-place : goal.invariant-loop-place
invariant-loop-place l = AreInCellOrder (map entry_said (take l.place (map said_of l.values)))
